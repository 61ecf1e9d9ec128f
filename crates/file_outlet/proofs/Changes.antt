-- A file that is changed under its name.
use Rattle.std.proofs.Common.{◌≡◌, ◌≢◌, ℕ, Bool, true, false, List, [], ◌∷◌, Option, None, Some, inl, inr, refl, sym, ap, ◌∙◌, take, subst}
use Rattle.std.specs.Prelude.{option_map, if◌then◌else◌, Result, Ok, Err, OnOk, OnErr}
use Rattle.std.specs.Str.{bytes_eq}
use Rattle.std.proofs.lemmas.Slice.Eq.{bytes_eq-Decides}
use Rattle.std.proofs.lemmas.Bool.{false≢true}
use Rattle.avm_outside.specs.Outside.{BothTold}
use Rattle.avm_outside.specs.Files.{appended, AppendsFront}
use Rattle.avm_outside.specs.Outlet.{Piece, packet, console, auth, all_added}
use Rattle.file_outlet.specs.FileMap.{FileMap}
use Rattle.file_outlet.specs.RunFiles.{Held, changed, with_bytes, spelled, name_of, adding_piece, TornPiece, Stays}

-- two maps that agree at each name are one
same_map : (f g : FileMap) → ((n : List ℕ) → f n ≡ g n) → f ≡ g
same_map f g h = λ i n. h n i

at_name : (f : Option (List ℕ) → Option (List ℕ)) (name : List ℕ) (old new : FileMap) → new name ≡ option_map f (old name) → ((n : List ℕ) → n ≢ name → new n ≡ old n) → (n : List ℕ) (b : Bool) → bytes_eq n name ≡ b → new n ≡ (if b then option_map f (old n) else old n)
at_name f name old new here others n true e =
    let same : n ≡ name = (bytes_eq-Decides n name).0 e in
    subst (λ (m : List ℕ). new m ≡ option_map f (old m)) (sym same) here
at_name f name old new here others n false e = others n (λ same. false≢true (sym e ∙ (bytes_eq-Decides n name).1 same))

pub changed_is : (f : Option (List ℕ) → Option (List ℕ)) (name : List ℕ) (old new : FileMap) → new name ≡ option_map f (old name) → ((n : List ℕ) → n ≢ name → new n ≡ old n) → new ≡ changed f name old
changed_is f name old new here others = same_map new (changed f name old) (λ n. at_name f name old new here others n (bytes_eq n name) refl)

pub same_files : (name : List ℕ) (old new : FileMap) → new name ≡ old name → ((n : List ℕ) → n ≢ name → new n ≡ old n) → new ≡ old
same_files name old new here others = same_map new old (λ n. go n (bytes_eq n name) refl)
  where
    go : (n : List ℕ) (b : Bool) → bytes_eq n name ≡ b → new n ≡ old n
    go n true e =
        let same : n ≡ name = (bytes_eq-Decides n name).0 e in
        subst (λ (m : List ℕ). new m ≡ old m) (sym same) here
    go n false e = others n (λ same. false≢true (sym e ∙ (bytes_eq-Decides n name).1 same))

with_files : Held → FileMap → Held
with_files h files = record h { files = files }

-- ---- the clauses of an outlet over files

pub piece_added : {T E : Type 0} (r : Result T E) (p : Piece) (h : Held) (files : FileMap)
    → OnOk r (files (name_of p h) ≡ option_map (appended (spelled p)) (h.files (name_of p h)))
    → ((n : List ℕ) → n ≢ name_of p h → files n ≡ h.files n) → OnOk r (record h { files = files } ≡ adding_piece p h)
piece_added (Ok x) p h files added others = ap (λ (f : FileMap). record h { files = f }) (changed_is (appended (spelled p)) (name_of p h) h.files files added others)
piece_added (Err e) p h files added others = tt

torn : (p : Piece) (h : Held) (files : FileMap) (was now : Option (Option (List ℕ))) → h.files (name_of p h) ≡ was → files (name_of p h) ≡ now
    → BothTold was now (AppendsFront (spelled p)) → ((n : List ℕ) → n ≢ name_of p h → files n ≡ h.files n) → TornPiece p h (record h { files = files })
torn p h files None None a b both others = inl (ap (λ (f : FileMap). record h { files = f }) (same_files (name_of p h) h.files files (b ∙ sym a) others))
torn p h files None (Some now) a b both others = absurd both
torn p h files (Some was) None a b both others = absurd both
torn p h files (Some was) (Some now) a b both others =
    elim both [
      | inl same ↦ inl (ap (λ (f : FileMap). record h { files = f }) (same_files (name_of p h) h.files files (b ∙ ap (λ (x : Option (List ℕ)). Some x) same ∙ sym a) others))
      | inr front ↦ inr (front.0, ap (λ (f : FileMap). record h { files = f }) (changed_is (appended (take front.0 (spelled p))) (name_of p h) h.files files (b ∙ ap (λ (x : Option (List ℕ)). Some x) front.1 ∙ sym (ap (option_map (appended (take front.0 (spelled p)))) a)) others))
    ]

pub piece_torn : {T E : Type 0} (r : Result T E) (p : Piece) (h : Held) (files : FileMap)
    → OnErr r (BothTold (h.files (name_of p h)) (files (name_of p h)) (AppendsFront (spelled p)))
    → ((n : List ℕ) → n ≢ name_of p h → files n ≡ h.files n) → OnErr r (TornPiece p h (record h { files = files }))
piece_torn (Ok x) p h files failed others = tt
piece_torn (Err e) p h files failed others = torn p h files _ _ refl refl failed others

-- ---- what stays under any pieces

all_stay : (h : Held) → Stays h h
all_stay h = record { packets = refl; console = refl; auths = refl; others = λ n a b c. refl }

stay_on : (a b c : Held) → Stays a b → Stays b c → Stays a c
stay_on a b c s t = record {
  packets = t.packets ∙ s.packets;
  console = t.console ∙ s.console;
  auths = t.auths ∙ s.auths;
  others = λ n x y z. t.others n (λ e. x (e ∙ s.packets)) (λ e. y (e ∙ s.console)) (λ e. z (e ∙ s.auths)) ∙ s.others n x y z;
}

other_same : (f : Option (List ℕ) → Option (List ℕ)) (name : List ℕ) (files : FileMap) (n : List ℕ) → n ≢ name → changed f name files n ≡ files n
other_same f name files n other = go (bytes_eq n name) refl
  where
    go : (b : Bool) → bytes_eq n name ≡ b → (if b then option_map f (files n) else files n) ≡ files n
    go true e = absurd (other ((bytes_eq-Decides n name).0 e))
    go false e = refl

bytes_stay : (bytes : List ℕ) (p : Piece) (h : Held) → Stays h (with_bytes bytes (name_of p h) h)
bytes_stay bytes (packet peer b) h = record { packets = refl; console = refl; auths = refl; others = λ n x y z. other_same (appended bytes) h.packets h.files n x }
bytes_stay bytes (console b) h = record { packets = refl; console = refl; auths = refl; others = λ n x y z. other_same (appended bytes) h.console h.files n y }
bytes_stay bytes (auth b) h = record { packets = refl; console = refl; auths = refl; others = λ n x y z. other_same (appended bytes) h.auths h.files n z }

pub stay_added : (pieces : List Piece) (h : Held) → Stays h (all_added adding_piece pieces h)
stay_added [] h = all_stay h
stay_added (p ∷ pieces) h = stay_on h (adding_piece p h) (all_added adding_piece pieces (adding_piece p h)) (bytes_stay (spelled p) p h) (stay_added pieces (adding_piece p h))

pub stay_torn : (p : Piece) (h new : Held) → TornPiece p h new → Stays h new
stay_torn p h new t =
    elim t [
      | inl same ↦ subst (Stays h) (sym same) (all_stay h)
      | inr front ↦ subst (Stays h) (sym front.1) (bytes_stay (take front.0 (spelled p)) p h)
    ]

pub stay_all : {T E : Type 0} (r : Result T E) (pieces : List Piece) (h new : Held) → OnOk r (new ≡ all_added adding_piece pieces h)
    → OnErr r ((ps : List Piece) × (p : Piece) × TornPiece p (all_added adding_piece ps h) new) → Stays h new
stay_all (Ok x) pieces h new ok err = subst (Stays h) (sym ok) (stay_added pieces h)
stay_all (Err e) pieces h new ok err = stay_on h (all_added adding_piece err.0 h) new (stay_added err.0 h) (stay_torn err.1 _ new err.2)
