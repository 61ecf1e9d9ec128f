-- Both nodes before their first exchange, and the whole run.
use Rattle.std.proofs.Common.{◌≡◌, ℕ, List, [], ◌∷◌, None, refl, sym, ap, subst, ◌∙◌, arith}
use Rattle.avm_model.specs.Keys.{KeyData, public_of}
use Rattle.avm_outside.specs.MemDisks.{disk_bytes}
use Rattle.avm_outside.specs.MemFeed.{feed_agenda}
use Rattle.avm_outside.specs.MemOutlets.{outlet_released}
use Rattle.avm_outside.specs.declared.mem_disk.MemDisk.{MemDisk}
use Rattle.format_command.specs.First.{first_journal}
use Rattle.format_command.specs.Inputs.{Tells}
use Rattle.journal_model.specs.Journal.{Is, JournalData, journal_of}
use Rattle.record_model.specs.Recorded.{Run}
use Rattle.record_model.specs.Released.{Sender}
use Rattle.recorder.specs.Recorder.{desk_of, stop_of}
use Rattle.sample_model.specs.Other.{Side, next_said, side_of}
use Rattle.rand_chacha.specs.ChaCha.{ChaCha}
use Rattle.sample_model.specs.Start.{image_words, message_words, other_key, other_words, own_key}
use Rattle.sample_model.specs.Talk.{IsSample, Talk as TalkOf, agenda, nothing, opening}
use Rattle.sample_node.specs.Node.{IsLeft, sender_in}
use Rattle.sample_other.specs.Saying.{IsWithin}
use Rattle.sample_parts.specs.Drawn.{behind, generator_of}
use Rattle.sample_parts.specs.Nodes.{behind_key, image_of, key_of}
use Rattle.sample_parts.specs.PeerLog.{new_log}
use Rattle.sample_talk.specs.Talking.{IsTalk, thousands}
use Rattle.sample_talk.specs.declared.talk.Talk.{Talk}
use Rattle.sample_run.specs.Opened.{IsOpen, OpensTalk}
use Rattle.sample_run.specs.Running.{Converses}
use Rattle.sample_run.specs.Stores.{IsStoreOf, inputs}

one_time : thousands 1 ≡ 1000 ∷ []
unfolding thousands
one_time = refl

-- both nodes
pub talk_is : (key : KeyData) (b : Side) (peer image : List ℕ) (first : MemDisk) (t : Talk) → peer ≡ public_of b.log.key → IsStoreOf (inputs key peer image) key first → ((j : JournalData) → journal_of (disk_bytes first) ≡ Is j → IsOpen j t.node.disk t.node.recorder) → (desk_of t.node.recorder).press.key ≡ key
    → feed_agenda t.node.feed ≡ agenda (next_said b).events (1000 ∷ []) → t.other ≡ (next_said b).side → IsWithin 1 t.other → outlet_released t.node.outlet ≡ nothing → t.heard ≡ 0 → OpensTalk key b image t
talk_is key b peer image first t public store opens is_key script side within held heard =
    let o = opens (first_journal key store.state) store.stands.read in
    let machine = (desk_of t.node.recorder).machine.state in
    record {
      state = store.state;
      tells = subst (λ (p : List ℕ). Tells (inputs key p image) key store.state) public store.tells;
      machine = machine;
      opened = o.opened;
      who = ap (λ (k : KeyData). record { key = k; own = machine.devices.own }) is_key;
      talk = record {
        node = record { running = o.running; goes = refl; disk = o.desk; batch = o.empty; machine = refl; script = script; held = held };
        side = side;
        within = within;
        heard = heard;
        times = record { values = sym one_time; left = omega arith };
      };
    }

-- ---- what is drawn

module _ (seed : ℕ) (g g1 g2 : ChaCha) (p0 : g ≡ generator_of seed) (p1 : g1 ≡ behind_key g) (p2 : g2 ≡ behind_key g1) where
  other_is : g1 ≡ other_words seed
  other_is = p1 ∙ ap behind_key p0

  pub image_is : g2 ≡ image_words seed
  image_is = p2 ∙ ap behind_key other_is

  pub side_is : (g3 : ChaCha) (peer : KeyData) (b : Side) → g3 ≡ behind 51168 g2 → peer ≡ key_of g1 → b ≡ record { log = new_log peer; words = g3; answers = 0 } → b ≡ side_of seed
  side_is g3 peer b p3 key is =
      let words : g3 ≡ message_words seed = p3 ∙ ap (behind 51168) image_is in
      let key_is : peer ≡ other_key seed = key ∙ ap key_of other_is in
      is ∙ ap (λ (k : KeyData). record { log = new_log k; words = g3; answers = 0 }) key_is ∙ ap (λ (w : ChaCha). record { log = new_log (other_key seed); words = w; answers = 0 }) words

-- ---- the run of a seed

pub sampled : (seed : ℕ) (key : KeyData) (b : Side) (image : List ℕ) (t z : Talk) → key ≡ own_key seed → b ≡ side_of seed → image ≡ image_of (image_words seed) → OpensTalk key b image t → ((m : TalkOf) → IsTalk 1 t m → Converses (sender_in t.node) m z)
    → (last : Run) × IsSample seed last × IsLeft z.node last × (stop_of z.node.recorder ≡ None)
sampled seed key b image t z is_key is_side is_image opens went =
    let one : OpensTalk (own_key seed) b image t = subst (λ (k : KeyData). OpensTalk k b image t) is_key opens in
    let two : OpensTalk (own_key seed) (side_of seed) image t = subst (λ (x : Side). OpensTalk (own_key seed) x image t) is_side one in
    let o : OpensTalk (own_key seed) (side_of seed) (image_of (image_words seed)) t = subst (λ (x : List ℕ). OpensTalk (own_key seed) (side_of seed) x t) is_image two in
    let start : TalkOf = opening (first_journal (own_key seed) o.state) o.machine (next_said (side_of seed)) (1000 ∷ []) in
    let c = subst (λ (w : Sender). Converses w start z) o.who (went start o.talk) in (
      c.last,
      record {
        store = first_journal (own_key seed) o.state;
        new = record { state = o.state; tells = o.tells; store = refl };
        machine = o.machine;
        opened = o.opened;
        clocks = 1000 ∷ [];
        talks = c.talks;
        end = c.end;
        went = c.went;
        last_is = c.last_is;
      },
      c.left,
      c.running,
    )
