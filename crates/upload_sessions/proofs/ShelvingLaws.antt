-- A session that is taken and shelved, with nothing between.
use Rattle.std.proofs.Common.{◌≡◌, ℕ, Bool, true, false, cond, List, [], Option, Some, None, length, refl, ap, sym, ◌∙◌}
use Rattle.std.specs.Prelude.{IsTrue, option_map}
use Rattle.std.specs.Option.{option_map_or}
use Rattle.reg_names.specs.Names.{IsName}
use Rattle.reg_names.specs.UploadIds.{IsUploadId}
use Rattle.depot_api.specs.Paths.{is_at}
use Rattle.depot_api.specs.Files.{Files, with_at}
use Rattle.depot_api.specs.Holdings.{Holding}
use Rattle.depot_api.specs.Stages.{Staged}
use Rattle.depot_api.specs.Changes.{with_file, with_put, with_lent, with_shelved, bytes_or, IsLentOf}
use Rattle.depot_api.proofs.SlotLaws.{same_at, at_itself}
use Rattle.link_paths.specs.declared.place.Place.TheVariants.{UploadData, UploadStarted}
use Rattle.link_paths.specs.Places.{upload_data_path, upload_started_path}
use Rattle.link_paths.proofs.ApartPlaces.{same_place}
use Rattle.reg_model.specs.Uploads.{upload_at}

abbrev Path : Type 0
Path = List (List ℕ)

-- ---- what is given back

put_over : (p : Path) (w : Option (List ℕ)) (files : Files) (tells : Bool)
    → cond tells (with_at (cond tells (with_at files p None) files) p w) (cond tells (with_at files p None) files) ≡ cond tells (with_at files p w) files
put_over p w files true = λ i q. by (is_at p q) (files q) i where
  by : (c : Bool) (v : Option (List ℕ)) → cond c w (cond c None v) ≡ cond c w v
  by true v = refl
  by false v = refl
put_over p w files false = refl

lent_again : (lent : Path → Bool) (p : Path) → lent p ≡ false → (q : Path) (c : Bool) → is_at p q ≡ c → cond c false (cond c true (lent q)) ≡ lent q
lent_again lent p free q true at = sym (sym (ap lent (same_at p q at)) ∙ free)
lent_again lent p free q false at = refl

given : (held : Holding) (p : Path) (bytes : List ℕ) → held.lent p ≡ false → with_put (with_lent held p) p bytes ≡ with_file held p (Some bytes)
given held p bytes free =
    λ i. record {
      tells = held.tells;
      files = put_over p (Some bytes) held.files held.tells i;
      lent = λ q. lent_again held.lent p free q (is_at p q) refl i;
    }

pub given_back : (held : Holding) (p : Path) (staged : Staged) → held.lent p ≡ false → staged.path ≡ p → with_shelved (with_lent held p) staged ≡ with_file held p (Some staged.bytes)
given_back held p staged free is =
    let there : (with_lent held p).lent staged.path ≡ true = ap (with_lent held p).lent is ∙ ap (λ (c : Bool). cond c true (held.lent p)) (at_itself p) in
    ap (λ (c : Bool). cond c (with_put (with_lent held p) staged.path staged.bytes) (with_lent held p)) there
    ∙ ap (λ (at : Path). with_put (with_lent held p) at staged.bytes) is ∙ given held p staged.bytes free

-- ---- bytes that were there

same_put : (files : Files) (p : Path) (bytes : List ℕ) → files p ≡ Some bytes → (q : Path) (c : Bool) → is_at p q ≡ c → cond c (Some bytes) (files q) ≡ files q
same_put files p bytes there q true at = sym there ∙ ap files (same_at p q at)
same_put files p bytes there q false at = refl

put_again : (held : Holding) (p : Path) (bytes : List ℕ) → IsTrue held.tells → held.files p ≡ Some bytes → with_file held p (Some bytes) ≡ held
put_again held p bytes tells there =
    let files : cond held.tells (with_at held.files p (Some bytes)) held.files ≡ held.files =
    ap (λ (t : Bool). cond t (with_at held.files p (Some bytes)) held.files) tells ∙ (λ i q. same_put held.files p bytes there q (is_at p q) refl i) in
    λ i. record { tells = held.tells; files = files i; lent = held.lent }

pub bytes_stay : (held : Holding) (p : Path) (staged : Staged) (bytes : List ℕ) → held.lent p ≡ false → IsLentOf held p staged → IsTrue held.tells → held.files p ≡ Some bytes → with_shelved (with_lent held p) staged ≡ held
bytes_stay held p staged bytes free lent tells there =
    let same : staged.bytes ≡ bytes = lent.bytes tells ∙ ap (λ (w : Option (List ℕ)). option_map_or (λ bytes. bytes) w []) there in
    given_back held p staged free lent.path ∙ ap (λ (b : List ℕ). with_file held p (Some b)) same ∙ put_again held p bytes tells there

-- ---- where uploads end

length_or : (w : Option (List ℕ)) → length (option_map_or (λ bytes. bytes) w []) ≡ option_map_or length w 0
length_or None = refl
length_or (Some bytes) = refl

length_at : (files : Files) (p : Path) (bytes : List ℕ) → bytes ≡ bytes_or [] files p → (q : Path) (c : Bool) → is_at p q ≡ c → option_map_or length (cond c (Some bytes) (files q)) 0 ≡ option_map_or length (files q) 0
length_at files p bytes are q true at = ap length are ∙ length_or (files p) ∙ ap (λ (r : Path). option_map_or length (files r) 0) (same_at p q at)
length_at files p bytes are q false at = refl

no_start : (name id other key : List ℕ) → IsName name → IsUploadId id → IsName other → IsUploadId key → (c : Bool) → is_at (upload_data_path name id) (upload_started_path other key) ≡ c → c ≡ false
no_start name id other key n i o k true at =
    let one : UploadData name id ≡ UploadStarted other key = same_place (UploadData name id) (UploadStarted other key) (n, i) (o, k) (same_at (upload_data_path name id) (upload_started_path other key) at) in
    absurd (cc one)
no_start name id other key n i o k false at = refl

ends_by : (files : Files) (name id other key bytes : List ℕ) → IsName name → IsUploadId id → IsName other → IsUploadId key → bytes ≡ bytes_or [] files (upload_data_path name id)
    → upload_at (with_at files (upload_data_path name id) (Some bytes)) other key ≡ upload_at files other key
ends_by files name id other key bytes n i o k are =
    let length_same = length_at files (upload_data_path name id) bytes are (upload_data_path other key) (is_at (upload_data_path name id) (upload_data_path other key)) refl in
    let start : cond (is_at (upload_data_path name id) (upload_started_path other key)) (Some bytes) (files (upload_started_path other key)) ≡ files (upload_started_path other key) =
    ap (λ (c : Bool). cond c (Some bytes) (files (upload_started_path other key))) (no_start name id other key n i o k _ refl) in
    ap (λ (end : ℕ). option_map (λ (started : List ℕ). end) (cond (is_at (upload_data_path name id) (upload_started_path other key)) (Some bytes) (files (upload_started_path other key)))) length_same
    ∙ ap (option_map (λ (started : List ℕ). option_map_or length (files (upload_data_path other key)) 0)) start

pub ends_stay : (held : Holding) (name id other key : List ℕ) (staged : Staged) → IsName name → IsUploadId id → IsName other → IsUploadId key → held.lent (upload_data_path name id) ≡ false
    → IsLentOf held (upload_data_path name id) staged → IsTrue held.tells → upload_at (with_shelved (with_lent held (upload_data_path name id)) staged).files other key ≡ upload_at held.files other key
ends_stay held name id other key staged n i o k free lent tells =
    ap (λ (h : Holding). upload_at h.files other key) (given_back held (upload_data_path name id) staged free lent.path)
    ∙ ap (λ (t : Bool). upload_at (cond t (with_at held.files (upload_data_path name id) (Some staged.bytes)) held.files) other key) tells
    ∙ ends_by held.files name id other key staged.bytes n i o k (lent.bytes tells)

pub loans_stay : (held : Holding) (p : Path) (staged : Staged) → held.lent p ≡ false → IsLentOf held p staged → (with_shelved (with_lent held p) staged).lent ≡ held.lent
loans_stay held p staged free lent = ap (λ (h : Holding). h.lent) (given_back held p staged free lent.path)
