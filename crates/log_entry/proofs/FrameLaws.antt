-- Frames are read as they are spelled, and the frames of bytes one by one.
use Rattle.std.proofs.Common.{◌≡◌, ℕ, ◌+◌, ◌≤◌, true, is_some, List, [], ◌∷◌, ◌++◌, length, Option, Some, None, IsSome, IfSome, IfNone, refl, ap, subst, ◌∙◌, append_assoc, arith}
use Rattle.std.specs.Int.{w32, w64}
use Rattle.std.specs.Iterator.{YieldsFirstBy, MakesProgress, item_count}
use Rattle.avm_num.specs.Bytes.{IsBytes, Takes, number_at, byte_at}
use Rattle.avm_num.specs.Lists.{be, one, sized_at, sized_bytes}
use Rattle.avm_num.specs.Walk.{behind_of}
use Rattle.avm_num.proofs.Numbers.{Front, bind_some, kept_some}
use Rattle.avm_num.proofs.Fields.{Reads, start, next, goes, reads_32, reads_byte, reads_sized}
use Rattle.avm_num.proofs.Walks.{Shortens, items_some, items_none, behind_some, behind_none, items_count}
use Rattle.avm_model.specs.Parts.{ordinal_at}
use Rattle.avm_model.specs.Content.{ContentData, kind_of, content_bytes, FitsContent, content_at}
use Rattle.avm_model.specs.Frame.{FrameData, frame_bytes, HasForm, FitsFrame, frame_at, frames_of}
use Rattle.avm_model.proofs.PartLaws.{reads_ordinal}
use Rattle.avm_model.proofs.PartLengths.{ordinal_rest, byte_rest, sized_rest, middle_bytes_are}
use Rattle.log_entry.specs.declared.frame.Frame.{Frame}
use Rattle.log_entry.specs.Views.{frame_view}
use Rattle.log_entry.proofs.Options.{is_some_is}
use Rattle.log_entry.proofs.Contents.{content_read, content_again}

-- a content that fits its kind is read
pub has_form : (f : FrameData) → HasForm f → is_some (content_at f.kind f.content) ≡ true
has_form f h = rw (← h.2, ← h.3, content_again h.0 h.1) refl

form_is : (kind : ℕ) (content : List ℕ) → IsBytes content → is_some (content_at kind content) ≡ true → (c : ContentData) × FitsContent c × (kind_of c ≡ kind) × (content_bytes c ≡ content)
form_is kind content fits some =
    let c = is_some_is (content_at kind content) some in
    let r = content_read kind content c.0 fits c.1 in
    (c.0, r.0, r.1, r.2)

regroup : (a b c d e : List ℕ) → (a ++ b ++ (c ++ d)) ++ e ≡ (a ++ b ++ c) ++ (d ++ e)
regroup a b c d e = simp append_assoc

pub reads_frame : Reads frame_at frame_bytes FitsFrame
unfolding frame_at frame_bytes
reads_frame = record {
  front = λ bytes p fits e.
      let a = next reads_ordinal bytes [] bytes (start bytes fits) _ p e in
      let b = next reads_byte bytes _ _ a.1 _ p a.3 in
      let c = next (reads_sized reads_32) bytes _ _ b.1 _ p b.3 in
      let k = kept_some (is_some (content_at b.0.0 c.0.0)) (record { seq = a.0.0; kind = b.0.0; content = c.0.0 }, c.0.1) p c.3 in
      let inner = middle_bytes_are bytes _ c.0.0 _ fits (c.1.parts ∙ regroup (be w64 a.0.0) (one b.0.0) (be w32 (length c.0.0)) c.0.0 c.0.1) in
      subst (λ (q : FrameData × List ℕ). Front bytes (frame_bytes q.0) q.1 × FitsFrame q.0) k.1
      (c.1, record { seq = a.2; short = c.2; form = form_is b.0.0 c.0.0 inner k.0 });
  again = λ f rest fits.
      let regrouped : frame_bytes f ++ rest ≡ be w64 f.seq ++ (one f.kind ++ (sized_bytes (be w32) f.content ++ rest)) = simp append_assoc in
      ap frame_at regrouped ∙ goes reads_ordinal f.seq _ _ fits.seq ∙ goes reads_byte f.kind _ _ tt ∙ goes (reads_sized reads_32) f.content _ _ fits.short ∙ rw (has_form f fits.form) refl;
}

pub frame_short : (bytes : List ℕ) (p : FrameData × List ℕ) → frame_at bytes ≡ Some p → length p.1 + 9 ≤ length bytes
unfolding frame_at
frame_short bytes p e =
    let a = bind_some (ordinal_at bytes) _ p e in
    let b = bind_some (byte_at a.0.1) _ p a.2 in
    let c = bind_some (sized_at (number_at w32) b.0.1) _ p b.2 in
    let k = kept_some (is_some (content_at b.0.0 c.0.0)) (record { seq = a.0.0; kind = b.0.0; content = c.0.0 }, c.0.1) p c.2 in
    let r : length c.0.1 ≡ length p.1 = ap (λ (q : FrameData × List ℕ). length q.1) k.1 in
    omega (arith, r, ordinal_rest bytes a.0 a.1, byte_rest a.0.1 b.0 b.1, sized_rest b.0.1 c.0 c.1)

pub frame_shortens : Shortens frame_at
frame_shortens = record { short = λ bytes p e. let h = frame_short bytes p e in omega (arith, h) }

-- a frame that is read has its kind's form, and its number is in range
pub frame_form : (bytes : List ℕ) (p : FrameData × List ℕ) → frame_at bytes ≡ Some p → IsSome (content_at p.0.kind p.0.content)
unfolding frame_at
frame_form bytes p e =
    let a = bind_some (ordinal_at bytes) _ p e in
    let b = bind_some (byte_at a.0.1) _ p a.2 in
    let c = bind_some (sized_at (number_at w32) b.0.1) _ p b.2 in
    let k = kept_some (is_some (content_at b.0.0 c.0.0)) (record { seq = a.0.0; kind = b.0.0; content = c.0.0 }, c.0.1) p c.2 in
    subst (λ (q : FrameData × List ℕ). IsSome (content_at q.0.kind q.0.content)) k.1 k.0

pub frames_some : (bytes : List ℕ) (p : FrameData × List ℕ) → frame_at bytes ≡ Some p → frames_of bytes ≡ p.0 ∷ frames_of p.1
frames_some bytes p e = items_some frame_at frame_shortens bytes p e

pub frames_none : (bytes : List ℕ) → frame_at bytes ≡ None → frames_of bytes ≡ []
frames_none bytes e = items_none frame_at frame_shortens bytes e

pub frames_behind_some : (bytes : List ℕ) (p : FrameData × List ℕ) → frame_at bytes ≡ Some p → behind_of frame_at bytes ≡ behind_of frame_at p.1
frames_behind_some bytes p e = behind_some frame_at frame_shortens bytes p e

pub frames_behind_none : (bytes : List ℕ) → frame_at bytes ≡ None → behind_of frame_at bytes ≡ bytes
frames_behind_none bytes e = behind_none frame_at frame_shortens bytes e

pub frames_count : (bytes : List ℕ) → length (frames_of bytes) ≤ length bytes
frames_count bytes = items_count frame_at frame_shortens bytes

-- ---- the clauses of the readers

pub found : (r : Option Frame) (old new : List ℕ) → IsBytes old → Takes frame_view r old new (frame_at old) → IfSome r (λ f. FitsFrame (frame_view f) × (old ≡ frame_bytes (frame_view f) ++ new))
found None old new fits h = tt
found (Some f) old new fits h = let p = reads_frame.front old (frame_view f, new) fits h in (p.1, p.0.parts)

none_of : (old : List ℕ) → frame_at old ≡ None → (f : FrameData) (rest : List ℕ) → FitsFrame f → old ≡ frame_bytes f ++ rest → ⊥
none_of old e f rest fits is =
    let again = reads_frame.again f rest fits in
    let same : frame_at old ≡ frame_at (frame_bytes f ++ rest) = ap frame_at is in
    cc

pub none : (r : Option Frame) (old new : List ℕ) → Takes frame_view r old new (frame_at old) → IfNone r ((f : FrameData) (rest : List ℕ) → FitsFrame f → old ≡ frame_bytes f ++ rest → ⊥)
none None old new h = none_of old h.0
none (Some f) old new h = tt

-- a call of next
pub yields : (r : Option Frame) (old new : List ℕ) → Takes frame_view r old new (frame_at old) → YieldsFirstBy frame_view frames_of old r new
yields None old new h = (frames_none old h.0, rw h.1 (frames_none old h.0))
yields (Some f) old new h = frames_some old (frame_view f, new) h

pub progress : (can : List ℕ → Type 0) → ((t : List ℕ) → can t) → (r : Option Frame) (old new : List ℕ) → YieldsFirstBy frame_view frames_of old r new → MakesProgress can (item_count frames_of) old r new
progress can all None old new y = record { on = λ _. tt; keeps = tt; rests = λ _. tt }
progress can all (Some f) old new y =
    let n = ap length y in
    record { on = λ _. (all new, tt, omega arith); keeps = all new; rests = λ _. tt }
