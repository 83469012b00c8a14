-- Lists in order, made of maps and sets.
use Rattle.std.proofs.Common.{◌≡◌, ℕ, Bool, true, false, cond, List, [], ◌∷◌, ◌++◌, map, Option, nat_eq, refl, sym, ap, subst, ◌∙◌}
use Rattle.std.specs.Prelude.{◌||◌}
use Rattle.std.proofs.lemmas.List.{append-nil}
use Rattle.std.specs.Ordering.{nat_cmp}
use Rattle.std.specs.List.{list_any}
use Rattle.std.specs.List.Sorted.{IsStrictlySortedBy}
use Rattle.std.specs.Map.{lookup, keys_of}
use Rattle.std.specs.BTreeMap.{is_at}
use Rattle.std.specs.Cmp.Lexicographic.{pointwise, slice_cmp, texts_ties, nat_list_eq_equiv}
use Rattle.reg_names.specs.declared.named.Named.{Named}
use Rattle.reg_names.specs.Named.{digests_of, free_in, has_digest}
use Rattle.manifest_doc.specs.Documents.{is_of, freedom, AreNamed, AreChildren}
use Rattle.manifest_doc.specs.declared.descriptors.Descriptor.{Descriptor}

-- whether a key is a digest
pub same_key : (key q : List ℕ) → is_at (slice_cmp nat_cmp key) q ≡ pointwise nat_eq q key
same_key key q = sym (texts_ties key q) ∙ nat_list_eq_equiv.symm key q

-- ---- maps

-- the entry of a map as one of a list
abbrev pub entry : List ℕ × Bool → Named
entry e = record { digest = e.0; free = e.1 }

digests_of-map : (es : List (List ℕ × Bool)) → digests_of (map entry es) ≡ keys_of es
digests_of-map [] = refl
digests_of-map (e ∷ es) = ap (λ ks. e.0 ∷ ks) (digests_of-map es)

free_in-map : (q : List ℕ) (es : List (List ℕ × Bool)) → free_in q (map entry es) ≡ lookup (is_at (slice_cmp nat_cmp q)) es
free_in-map q [] = refl
free_in-map q (e ∷ es) = rw (texts_ties q e.0, free_in-map q es) refl

-- the list of a map that tells what is named
pub named_is : (config : Option Descriptor) (layers : List Descriptor) (es : List (List ℕ × Bool)) (named : List Named) → named ≡ map entry es → IsStrictlySortedBy (slice_cmp nat_cmp) (keys_of es) → ((q : List ℕ) → lookup (is_at (slice_cmp nat_cmp q)) es ≡ freedom q config layers) → AreNamed config layers named
named_is config layers es named is ordered tells = record {
  ascending = subst (IsStrictlySortedBy (slice_cmp nat_cmp)) (sym (ap digests_of is ∙ digests_of-map es)) ordered;
  exact = λ q. ap (free_in q) is ∙ free_in-map q es ∙ tells q;
}

-- ---- sets

has_digest-is : (q : List ℕ) (ks : List (List ℕ)) → has_digest q ks ≡ list_any (is_at (slice_cmp nat_cmp q)) ks
has_digest-is q [] = refl
has_digest-is q (k ∷ ks) = rw (texts_ties q k, has_digest-is q ks) refl

-- the list of a set that has what is listed
pub children_are : (manifests : List Descriptor) (keys children : List (List ℕ)) → children ≡ keys → IsStrictlySortedBy (slice_cmp nat_cmp) keys → ((q : List ℕ) → list_any (is_at (slice_cmp nat_cmp q)) keys ≡ list_any (is_of q) manifests) → AreChildren manifests children
children_are manifests keys children is ordered tells = record {
  ascending = subst (IsStrictlySortedBy (slice_cmp nat_cmp)) (sym is) ordered;
  exact = λ q. ap (has_digest q) is ∙ has_digest-is q keys ∙ tells q;
}

moved : (t o r : Bool) → (cond t true o || r) ≡ (o || (t || r))
moved true true r = refl
moved true false r = refl
moved false o r = refl

-- one digest more
pub put_turn : (old new : List ℕ → Bool) (e : Descriptor) (left rest all : List Descriptor) → ((q : List ℕ) → new q ≡ cond (is_at (slice_cmp nat_cmp e.digest) q) true (old q)) → left ≡ e ∷ rest → ((q : List ℕ) → (old q || list_any (is_of q) left) ≡ list_any (is_of q) all) → (q : List ℕ) → (new q || list_any (is_of q) rest) ≡ list_any (is_of q) all
put_turn old new e left rest all put is before q =
    ap (λ b. b || list_any (is_of q) rest) (put q ∙ ap (λ t. cond t true (old q)) (same_key e.digest q)) ∙ moved (is_of q e) (old q) (list_any (is_of q) rest) ∙ ap (λ ds. old q || list_any (is_of q) ds) (sym is) ∙ before q

-- ---- loops

-- all that was left has been taken
pub all_taken : {X : Type 0} (front rest all : List X) → front ++ rest ≡ all → rest ≡ [] → front ≡ all
all_taken front rest all h none = sym (append-nil front) ∙ ap (λ r. front ++ r) (sym none) ∙ h
