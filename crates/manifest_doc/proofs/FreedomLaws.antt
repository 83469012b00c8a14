-- What is gathered of the occurrences of a digest.
use Rattle.std.proofs.Common.{◌≡◌, ℕ, Bool, true, false, cond, not, List, [], ◌∷◌, Option, Some, None, nat_eq, refl, sym, ap, ◌∙◌, true≢false}
use Rattle.std.specs.Prelude.{◌&&◌, ◌||◌}
use Rattle.std.specs.Option.{unwrap_or}
use Rattle.std.specs.List.{list_any, list_all}
use Rattle.std.specs.Ordering.{nat_cmp}
use Rattle.std.specs.Cmp.Lexicographic.{pointwise, slice_cmp, same_text}
use Rattle.std.specs.BTreeMap.{is_at}
use Rattle.manifest_doc.specs.Documents.{is_of, freedom}
use Rattle.manifest_doc.specs.InnerNoting.{Freedoms, with_note}
use Rattle.manifest_doc.proofs.ListLaws.{same_key}
use Rattle.manifest_doc.specs.declared.descriptors.Descriptor.{Descriptor}

-- what was gathered, with the layers' occurrences
abbrev pub with_layers : Freedoms → List Descriptor → Freedoms
with_layers f [] = f
with_layers f (e ∷ es) = with_layers (with_note f e.digest e.has_urls) es

-- what was gathered, with that of the configuration
abbrev pub with_config : Freedoms → Option Descriptor → Freedoms
with_config f None = f
with_config f (Some e) = with_note f e.digest false

-- a layer that is of the digest has URLs
abbrev has : List ℕ → Descriptor → Bool
has q e = not (is_of q e) || e.has_urls

-- some occurrences may be free, after others
abbrev merged : (any all : Bool) → Option Bool → Option Bool
merged any all o = cond any (Some (unwrap_or o true && all)) o

none_all : (q : List ℕ) (es : List Descriptor) → list_any (is_of q) es ≡ false → list_all (has q) es ≡ true
none_all q [] none = refl
none_all q (e ∷ es) none = at_test (is_of q e) none (none_all q es) where
  at_test : (t : Bool) → (t || list_any (is_of q) es) ≡ false → (list_any (is_of q) es ≡ false → list_all (has q) es ≡ true) → ((not t || e.has_urls) && list_all (has q) es) ≡ true
  at_test true h rest = absurd (true≢false h)
  at_test false h rest = rest h

step : (t urls any all : Bool) (o : Option Bool) → (any ≡ false → all ≡ true) → merged any all (cond t (Some (unwrap_or o true && urls)) o) ≡ merged (t || any) ((not t || urls) && all) o
step true true true all None k = refl
step true true true all (Some true) k = refl
step true true true all (Some false) k = refl
step true false true all None k = refl
step true false true all (Some true) k = refl
step true false true all (Some false) k = refl
step true true false true None k = refl
step true false false true None k = refl
step true true false true (Some true) k = refl
step true true false true (Some false) k = refl
step true false false true (Some true) k = refl
step true false false true (Some false) k = refl
step true urls false false o k = absurd (true≢false (sym (k refl)))
step false urls any all o k = refl

with_layers-is : (f : Freedoms) (es : List Descriptor) (q : List ℕ) → with_layers f es q ≡ merged (list_any (is_of q) es) (list_all (has q) es) (f q)
with_layers-is f [] q = refl
with_layers-is f (e ∷ es) q =
    with_layers-is (with_note f e.digest e.has_urls) es q ∙ step (is_of q e) e.has_urls _ _ (f q) (none_all q es)

begun : (t any all : Bool) → merged any all (cond t (Some false) None) ≡ cond (t || any) (Some (not t && all)) None
begun true true all = refl
begun true false all = refl
begun false true all = refl
begun false false all = refl

-- what the configuration and the layers tell of a digest
pub gathered : (config : Option Descriptor) (es : List Descriptor) (q : List ℕ) → with_layers (with_config (λ _. None) config) es q ≡ freedom q config es
gathered None es q = with_layers-is (λ _. None) es q ∙ begun false _ _
gathered (Some e) es q = with_layers-is (with_note (λ _. None) e.digest false) es q ∙ begun (is_of q e) _ _

-- no layer is left
pub ended : (f : Freedoms) (left : List Descriptor) (config : Option Descriptor) (es : List Descriptor) → with_layers f left ≡ with_layers (with_config (λ _. None) config) es → left ≡ [] → (q : List ℕ) → f q ≡ freedom q config es
ended f left config es h none q =
    sym (ap (λ ds. with_layers f ds q) none) ∙ ap (λ (g : Freedoms). g q) h ∙ gathered config es q

noted_at : (t : Bool) (f : Freedoms) (digest q : List ℕ) (w urls : Bool) → pointwise nat_eq q digest ≡ t → w ≡ (unwrap_or (f digest) true && urls) → cond t (Some w) (f q) ≡ cond t (Some (unwrap_or (f q) true && urls)) (f q)
noted_at true f digest q w urls same is = ap Some (is ∙ ap (λ d. unwrap_or (f d) true && urls) (sym (same_text q digest (sym same))))
noted_at false f digest q w urls same is = refl

-- a digest was put with what its occurrences tell
pub noted : (f g : Freedoms) (digest : List ℕ) (w urls : Bool) → w ≡ (unwrap_or (f digest) true && urls) → ((q : List ℕ) → g q ≡ cond (is_at (slice_cmp nat_cmp digest) q) (Some w) (f q)) → (q : List ℕ) → g q ≡ with_note f digest urls q
noted f g digest w urls is put q =
    put q ∙ ap (λ t. cond t (Some w) (f q)) (same_key digest q) ∙ noted_at (pointwise nat_eq q digest) f digest q w urls refl is
