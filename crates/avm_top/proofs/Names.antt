-- The names of a valid job, and its store.
use Rattle.std.proofs.Common.{◌≡◌, ◌≢◌, ℕ, Bool, true, false, List, [], ◌∷◌, Option, None, Some, IfSome, is_some, drop, if◌then◌else◌, refl, sym, ◌∙◌, subst}
use Rattle.std.specs.Str.{bytes_eq}
use Rattle.std.proofs.lemmas.Slice.Eq.{bytes_eq-Decides}
use Rattle.std.proofs.lemmas.Bool.Decides.{not_from_Decides}
use Rattle.avm_num.specs.Bytes.{◌>>=◌, kept}
use Rattle.std.specs.Prelude.{codes, ◌^◌, ◌++◌}
use Rattle.std.specs.Option.{option_to_list}
use Rattle.avm_model.specs.Words.{is_among, are_distinct, are_pairs, needed, optional, number_of, hex_sized}
use Rattle.avm_script.specs.Job.{JobData, SignedData, keygen, format, record_job, export, audit, check, rebut, list, sample, retain, roll, enroll, widen, narrow, view_at, view_changes, Command, store_of, spare_of, value_of, job_of, asked_of, height_of, width_of, signed_of, signed_names, keygen_job, format_job, record_words, export_job, audit_job, check_job, rebut_job, list_job, sample_job, retain_job, roll_job, enroll_job, widen_job, narrow_job, view_job, view_at_job, view_changes_job, view_at_options, view_changes_options, address_of, window_of, keygen_command, format_command, record_command, export_command, audit_command, check_command, rebut_command, list_command, sample_command, retain_command, roll_command, enroll_command, widen_command, narrow_command, view_command}
use Rattle.avm_top.specs.Jobs.{uses_disk, uses_spare}

-- the words behind the command have this store
abbrev HasStore : List (List ℕ) → List ℕ → Type 0
HasStore words store = needed (codes "--store") words ≡ Some store

-- and this spare
abbrev HasSpare : List (List ℕ) → List ℕ → Type 0
HasSpare words spare = needed (codes "--into") words ≡ Some spare

-- what a valid job is known for: a key's two files have different names, so have the key and the evidence of an audit, and the two
-- files that narrowing writes; and a store is that of the words, as a spare is
abbrev Fits : List (List ℕ) → JobData → Type 0
Fits words (keygen height w id seed key public) = key ≢ public
Fits words (format store key config image) = HasStore words store
Fits words (record_job store key script packets console auths) = HasStore words store
Fits words (export store from to segment) = HasStore words store
Fits words (audit segment image (Some names)) = names.key ≢ names.evidence
Fits words (rebut store evidence) = HasStore words store
Fits words (list store) = HasStore words store
Fits words (retain store into at) = HasStore words store × HasSpare words into
Fits words (roll store key) = HasStore words store
Fits words (enroll store key public endorse) = HasStore words store
Fits words (narrow key auths public into) = public ≢ into
Fits words job = Unit {0}

bound : {A B : Type 0} (P : B → Type 0) (m : Option A) (f : A → Option B) → ((x : A) → IfSome (f x) P) → IfSome (m >>= f) P
bound P None f each = tt
bound P (Some x) f each = each x

bound_by : {A B : Type 0} (P : B → Type 0) (m : Option A) (f : A → Option B) → ((x : A) → m ≡ Some x → IfSome (f x) P) → IfSome (m >>= f) P
bound_by P None f each = tt
bound_by P (Some x) f each = each x refl

if_kept : {A : Type 0} (P : A → Type 0) (b : Bool) (x : A) → (b ≡ true → P x) → IfSome (kept b x) P
if_kept P true x so = so refl
if_kept P false x so = tt

either : {A : Type 0} (P : A → Type 0) (b : Bool) (o p : Option A) → IfSome o P → IfSome p P → IfSome (if b then o else p) P
either P true o p first second = first
either P false o p first second = second

apart_by : (key public : List ℕ) (same : Bool) → bytes_eq key public ≡ same → are_distinct (key ∷ public ∷ []) ≡ true → key ≢ public
apart_by key public true e distinct = let no : false ≡ true = rw e at distinct in cc
apart_by key public false e distinct = not_from_Decides (bytes_eq key public) (bytes_eq-Decides key public) e

keygen_apart : (words : List (List ℕ)) → IfSome (keygen_job words) (Fits words)
unfolding keygen_job
keygen_apart words = bound (Fits words) (needed (codes "--height") words >>= height_of) _ (λ height. bound (Fits words) (needed (codes "--w") words >>= width_of) _ (λ w. bound (Fits words) (needed (codes "--id") words >>= hex_sized 16) _ (λ id. bound (Fits words) (needed (codes "--seed") words >>= hex_sized 32) _ (λ seed. bound (Fits words) (needed (codes "--key") words) _ (λ key. bound (Fits words) (needed (codes "--public") words) _ (λ public. if_kept (Fits words) (are_distinct (key ∷ public ∷ [])) _ (λ distinct. apart_by key public (bytes_eq key public) refl distinct)))))))

format_apart : (words : List (List ℕ)) → IfSome (format_job words) (Fits words)
unfolding format_job
format_apart words = bound_by (Fits words) (needed (codes "--store") words) _ (λ store has. bound (Fits words) (needed (codes "--key") words) _ (λ key. bound (Fits words) (needed (codes "--config") words) _ (λ config. bound (Fits words) (needed (codes "--image") words) _ (λ image. if_kept (Fits words) (are_distinct (store ∷ key ∷ config ∷ image ∷ [])) _ (λ distinct. has)))))

record_apart : (words : List (List ℕ)) → IfSome (record_words words) (Fits words)
unfolding record_words
record_apart words = bound_by (Fits words) (needed (codes "--store") words) _ (λ store has. bound (Fits words) (needed (codes "--key") words) _ (λ key. bound (Fits words) (needed (codes "--script") words) _ (λ script. bound (Fits words) (needed (codes "--packets") words) _ (λ packets. bound (Fits words) (needed (codes "--console") words) _ (λ console. bound (Fits words) (needed (codes "--auths") words) _ (λ auths. if_kept (Fits words) (are_distinct (store ∷ key ∷ script ∷ packets ∷ console ∷ auths ∷ [])) _ (λ distinct. has)))))))

export_apart : (words : List (List ℕ)) → IfSome (export_job words) (Fits words)
unfolding export_job
export_apart words = bound_by (Fits words) (needed (codes "--store") words) _ (λ store has. bound (Fits words) (needed (codes "--from") words >>= number_of (2 ^ 64)) _ (λ from. bound (Fits words) (needed (codes "--to") words >>= number_of (2 ^ 64)) _ (λ to. bound (Fits words) (needed (codes "--segment") words) _ (λ segment. if_kept (Fits words) (are_distinct (store ∷ segment ∷ [])) _ (λ distinct. has)))))

rest_distinct : (w : List ℕ) (words : List (List ℕ)) → are_distinct (w ∷ words) ≡ true → are_distinct words ≡ true
rest_distinct w words distinct = go (is_among w words) distinct
  where
    go : (b : Bool) → (if b then false else are_distinct words) ≡ true → are_distinct words ≡ true
    go true e = absurd cc
    go false e = e

key_apart : (key auths evidence : List ℕ) → are_distinct (key ∷ auths ∷ evidence ∷ []) ≡ true → key ≢ evidence
key_apart key auths evidence distinct = go (bytes_eq key auths) (bytes_eq key evidence) refl distinct
  where
    go : (a b : Bool) → bytes_eq key evidence ≡ b → (if (if a then true else if b then true else false) then false else are_distinct (auths ∷ evidence ∷ [])) ≡ true → key ≢ evidence
    go a false e distinct = not_from_Decides (bytes_eq key evidence) (bytes_eq-Decides key evidence) e
    go true true e distinct = absurd cc
    go false true e distinct = absurd cc

signed_apart : (words : List (List ℕ)) (segment : List ℕ) (image : Option (List ℕ)) (signed : Option SignedData) → are_distinct (segment ∷ (option_to_list image ++ signed_names signed)) ≡ true → Fits words (audit segment image signed)
signed_apart words segment image None distinct = tt
signed_apart words segment None (Some s) distinct = key_apart s.key s.auths s.evidence (rest_distinct segment (s.key ∷ s.auths ∷ s.evidence ∷ []) distinct)
signed_apart words segment (Some image) (Some s) distinct = key_apart s.key s.auths s.evidence (rest_distinct image (s.key ∷ s.auths ∷ s.evidence ∷ []) (rest_distinct segment (image ∷ s.key ∷ s.auths ∷ s.evidence ∷ []) distinct))

audit_apart : (words : List (List ℕ)) → IfSome (audit_job words) (Fits words)
unfolding audit_job
audit_apart words = bound (Fits words) (needed (codes "--segment") words) _ (λ segment. bound (Fits words) (optional (codes "--image") words) _ (λ image. bound (Fits words) (signed_of words) _ (λ signed. if_kept (Fits words) (are_distinct (segment ∷ (option_to_list image ++ signed_names signed))) _ (λ distinct. signed_apart words segment image signed distinct))))

out_apart : (key auths public out : List ℕ) → are_distinct (key ∷ auths ∷ public ∷ out ∷ []) ≡ true → public ≢ out
out_apart key auths public out distinct = apart_by public out (bytes_eq public out) refl (rest_distinct auths (public ∷ out ∷ []) (rest_distinct key (auths ∷ public ∷ out ∷ []) distinct))

check_apart : (words : List (List ℕ)) → IfSome (check_job words) (Fits words)
unfolding check_job
check_apart words = bound (Fits words) (needed (codes "--key") words) _ (λ key. bound (Fits words) (needed (codes "--evidence") words) _ (λ evidence. if_kept (Fits words) (are_distinct (key ∷ evidence ∷ [])) _ (λ distinct. tt)))

rebut_apart : (words : List (List ℕ)) → IfSome (rebut_job words) (Fits words)
unfolding rebut_job
rebut_apart words = bound_by (Fits words) (needed (codes "--store") words) _ (λ store has. bound (Fits words) (needed (codes "--evidence") words) _ (λ evidence. if_kept (Fits words) (are_distinct (store ∷ evidence ∷ [])) _ (λ distinct. has)))

list_apart : (words : List (List ℕ)) → IfSome (list_job words) (Fits words)
unfolding list_job
list_apart words = bound_by (Fits words) (needed (codes "--store") words) _ (λ store has. has)

sample_apart : (words : List (List ℕ)) → IfSome (sample_job words) (Fits words)
unfolding sample_job
sample_apart words = bound (Fits words) (needed (codes "--seed") words) _ (λ text. bound (Fits words) (number_of (2 ^ 32) text) _ (λ seed. tt))

retain_apart : (words : List (List ℕ)) → IfSome (retain_job words) (Fits words)
unfolding retain_job
retain_apart words = bound_by (Fits words) (needed (codes "--store") words) _ (λ store has. bound_by (Fits words) (needed (codes "--into") words) _ (λ into other. bound (Fits words) (needed (codes "--at") words >>= number_of (2 ^ 64)) _ (λ at. if_kept (Fits words) (are_distinct (store ∷ into ∷ [])) _ (λ distinct. (has, other)))))

roll_apart : (words : List (List ℕ)) → IfSome (roll_job words) (Fits words)
unfolding roll_job
roll_apart words = bound_by (Fits words) (needed (codes "--store") words) _ (λ store has. bound (Fits words) (needed (codes "--key") words) _ (λ key. if_kept (Fits words) (are_distinct (store ∷ key ∷ [])) _ (λ distinct. has)))

enroll_apart : (words : List (List ℕ)) → IfSome (enroll_job words) (Fits words)
unfolding enroll_job
enroll_apart words = bound_by (Fits words) (needed (codes "--store") words) _ (λ store has. bound (Fits words) (needed (codes "--key") words) _ (λ key. bound (Fits words) (needed (codes "--public") words) _ (λ public. bound (Fits words) (needed (codes "--endorse") words) _ (λ endorse. if_kept (Fits words) (are_distinct (store ∷ key ∷ public ∷ endorse ∷ [])) _ (λ distinct. has)))))

widen_apart : (words : List (List ℕ)) → IfSome (widen_job words) (Fits words)
unfolding widen_job
widen_apart words = bound (Fits words) (needed (codes "--endorse") words) _ (λ endorse. bound (Fits words) (needed (codes "--auths") words) _ (λ auths. bound (Fits words) (needed (codes "--out") words) _ (λ out. if_kept (Fits words) (are_distinct (endorse ∷ auths ∷ out ∷ [])) _ (λ distinct. tt))))

narrow_apart : (words : List (List ℕ)) → IfSome (narrow_job words) (Fits words)
unfolding narrow_job
narrow_apart words = bound (Fits words) (needed (codes "--key") words) _ (λ key. bound (Fits words) (needed (codes "--auths") words) _ (λ auths. bound (Fits words) (needed (codes "--public") words) _ (λ public. bound (Fits words) (needed (codes "--out") words) _ (λ out. if_kept (Fits words) (are_distinct (key ∷ auths ∷ public ∷ out ∷ [])) _ (λ distinct. out_apart key auths public out distinct)))))

view_at_apart : (words : List (List ℕ)) → IfSome (view_at_job words) (Fits words)
unfolding view_at_job
view_at_apart words = bound (Fits words) (needed (codes "--segment") words) _ (λ segment. bound (Fits words) (needed (codes "--count") words >>= number_of (2 ^ 64)) _ (λ count. bound (Fits words) (optional (codes "--from") words) _ (λ from. bound (Fits words) (optional (codes "--words") words) _ (λ shown. bound (Fits words) (window_of from shown) _ (λ window. tt)))))

view_changes_apart : (words : List (List ℕ)) → IfSome (view_changes_job words) (Fits words)
unfolding view_changes_job
view_changes_apart words = bound (Fits words) (needed (codes "--segment") words) _ (λ segment. bound (Fits words) (needed (codes "--changes") words >>= address_of) _ (λ at. tt))

view_apart : (words : List (List ℕ)) → IfSome (view_job words) (Fits words)
unfolding view_job
view_apart words = either (Fits words) (are_pairs view_at_options words) _ _ (view_at_apart words) (either (Fits words) (are_pairs view_changes_options words) _ _ (view_changes_apart words) tt)

asked_apart : (command : Command) (words : List (List ℕ)) → IfSome (command.job words) (Fits words) → IfSome (asked_of command words) (Fits words)
unfolding asked_of
asked_apart command words apart = either (Fits words) (are_pairs command.options words) _ None apart tt

pub fits_words : (words : List (List ℕ)) → IfSome (job_of words) (Fits (drop 1 words))
unfolding job_of
fits_words [] = tt
fits_words (name ∷ words) =
    either (Fits words) (bytes_eq name keygen_command.name) _ _ (asked_apart keygen_command words (keygen_apart words)) (either (Fits words) (bytes_eq name format_command.name) _ _ (asked_apart format_command words (format_apart words)) (either (Fits words) (bytes_eq name record_command.name) _ _ (asked_apart record_command words (record_apart words)) (either (Fits words) (bytes_eq name export_command.name) _ _ (asked_apart export_command words (export_apart words)) (either (Fits words) (bytes_eq name audit_command.name) _ _ (asked_apart audit_command words (audit_apart words)) (either (Fits words) (bytes_eq name check_command.name) _ _ (asked_apart check_command words (check_apart words)) (either (Fits words) (bytes_eq name rebut_command.name) _ _ (asked_apart rebut_command words (rebut_apart words)) (either (Fits words) (bytes_eq name list_command.name) _ _ (asked_apart list_command words (list_apart words)) (either (Fits words) (bytes_eq name sample_command.name) _ _ (asked_apart sample_command words (sample_apart words)) (either (Fits words) (bytes_eq name retain_command.name) _ _ (asked_apart retain_command words (retain_apart words)) (either (Fits words) (bytes_eq name roll_command.name) _ _ (asked_apart roll_command words (roll_apart words)) (either (Fits words) (bytes_eq name enroll_command.name) _ _ (asked_apart enroll_command words (enroll_apart words)) (either (Fits words) (bytes_eq name widen_command.name) _ _ (asked_apart widen_command words (widen_apart words)) (either (Fits words) (bytes_eq name narrow_command.name) _ _ (asked_apart narrow_command words (narrow_apart words)) (either (Fits words) (bytes_eq name view_command.name) _ _ (asked_apart view_command words (view_apart words)) (tt)))))))))))))))

-- the key's files have different names
pub keygen_names : (words : List (List ℕ)) (height w : ℕ) (id seed key public : List ℕ) → Some (keygen height w id seed key public) ≡ job_of words → key ≢ public
keygen_names words height w id seed key public is = subst (λ (o : Option JobData). IfSome o (Fits (drop 1 words))) (sym is) (fits_words words)

-- and so have the key and the evidence of an audit
pub audit_names : (words : List (List ℕ)) (segment : List ℕ) (image : Option (List ℕ)) (names : SignedData) → Some (audit segment image (Some names)) ≡ job_of words → names.key ≢ names.evidence
audit_names words segment image names is = subst (λ (o : Option JobData). IfSome o (Fits (drop 1 words))) (sym is) (fits_words words)

-- and the files that narrowing writes
pub narrow_names : (words : List (List ℕ)) (key auths public into : List ℕ) → Some (narrow key auths public into) ≡ job_of words → public ≢ into
narrow_names words key auths public into is = subst (λ (o : Option JobData). IfSome o (Fits (drop 1 words))) (sym is) (fits_words words)

-- ---- stores

unused : (words : List (List ℕ)) (j : JobData) → Fits words j → needed (codes "--store") words ≡ None → uses_disk (Some j) ≡ false
unused words (keygen height w id seed key public) fits none = refl
unused words (format store key config image) fits none = let no : ◌≡◌ {A = Option (List ℕ)} (Some store) None = sym fits ∙ none in absurd cc
unused words (record_job store key script packets console auths) fits none = let no : ◌≡◌ {A = Option (List ℕ)} (Some store) None = sym fits ∙ none in absurd cc
unused words (export store from to segment) fits none = let no : ◌≡◌ {A = Option (List ℕ)} (Some store) None = sym fits ∙ none in absurd cc
unused words (audit segment image signed) fits none = refl
unused words (check key evidence) fits none = refl
unused words (rebut store evidence) fits none = let no : ◌≡◌ {A = Option (List ℕ)} (Some store) None = sym fits ∙ none in absurd cc
unused words (list store) fits none = let no : ◌≡◌ {A = Option (List ℕ)} (Some store) None = sym fits ∙ none in absurd cc
unused words (sample seed) fits none = refl
unused words (retain store into at) fits none = let no : ◌≡◌ {A = Option (List ℕ)} (Some store) None = sym fits.0 ∙ none in absurd cc
unused words (roll store key) fits none = let no : ◌≡◌ {A = Option (List ℕ)} (Some store) None = sym fits ∙ none in absurd cc
unused words (enroll store key public endorse) fits none = let no : ◌≡◌ {A = Option (List ℕ)} (Some store) None = sym fits ∙ none in absurd cc
unused words (widen endorse auths into) fits none = refl
unused words (narrow key auths public into) fits none = refl
unused words (view_at segment count from shown) fits none = refl
unused words (view_changes segment at) fits none = refl

-- a job without a store makes no call on the disk
pub no_store : (words : List (List ℕ)) → store_of words ≡ None → uses_disk (job_of words) ≡ false
unfolding job_of value_of
no_store [] none = refl
no_store (name ∷ words) none = go (job_of (name ∷ words)) (fits_words (name ∷ words)) none
  where
    go : (o : Option JobData) → IfSome o (Fits words) → (if is_some o then needed (codes "--store") words else None) ≡ None → uses_disk o ≡ false
    go None fits none = refl
    go (Some j) fits none = unused words j fits none

unspared : (words : List (List ℕ)) (j : JobData) → Fits words j → needed (codes "--into") words ≡ None → uses_spare (Some j) ≡ false
unspared words (keygen height w id seed key public) fits none = refl
unspared words (format store key config image) fits none = refl
unspared words (record_job store key script packets console auths) fits none = refl
unspared words (export store from to segment) fits none = refl
unspared words (audit segment image signed) fits none = refl
unspared words (check key evidence) fits none = refl
unspared words (rebut store evidence) fits none = refl
unspared words (list store) fits none = refl
unspared words (sample seed) fits none = refl
unspared words (retain store into at) fits none = let no : ◌≡◌ {A = Option (List ℕ)} (Some into) None = sym fits.1 ∙ none in absurd cc
unspared words (roll store key) fits none = refl
unspared words (enroll store key public endorse) fits none = refl
unspared words (widen endorse auths into) fits none = refl
unspared words (narrow key auths public into) fits none = refl
unspared words (view_at segment count from shown) fits none = refl
unspared words (view_changes segment at) fits none = refl

-- a job without a spare makes no call on one
pub no_spare : (words : List (List ℕ)) → spare_of words ≡ None → uses_spare (job_of words) ≡ false
unfolding job_of value_of
no_spare [] none = refl
no_spare (name ∷ words) none = go (job_of (name ∷ words)) (fits_words (name ∷ words)) none
  where
    go : (o : Option JobData) → IfSome o (Fits words) → (if is_some o then needed (codes "--into") words else None) ≡ None → uses_spare o ≡ false
    go None fits none = refl
    go (Some j) fits none = unspared words j fits none
