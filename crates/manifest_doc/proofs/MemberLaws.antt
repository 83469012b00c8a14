-- What a document names, frees and lists is what the members of its object tell.
use Rattle.std.proofs.Common.{◌≡◌, ℕ, List, [], ◌∷◌, nat_eq, Bool, true, false, cond, not, codes, Option, Some, None, Ok, Err, refl, sym, ap, subst, ◌∙◌, true≢false}
use Rattle.std.specs.Prelude.{◌&&◌, ◌||◌, is_some, option_and_then, option_map}
use Rattle.std.specs.Option.{option_map_or}
use Rattle.std.specs.List.{list_all, list_any}
use Rattle.std.specs.Cmp.Lexicographic.{pointwise}
use Rattle.std.proofs.lemmas.Bool.{and_parts}
use Rattle.serde_json.specs.Data.{Data}
use Rattle.serde_json.specs.Find.{get}
use Rattle.reg_names.specs.declared.kind.Kind.{Kind}
use Rattle.reg_names.specs.Named.{digests_of, free_in, has_digest}
use Rattle.manifest_doc.specs.declared.document.Doc.{Doc}
use Rattle.manifest_doc.specs.declared.fault.DocFault.TheVariants.{NoKind, BadDescriptor, TooMany}
use Rattle.manifest_doc.specs.declared.descriptors.Descriptor.{Descriptor}
use Rattle.manifest_doc.specs.Kinds.{object_in, kind_of_object}
use Rattle.manifest_doc.specs.Descriptors.{elements, digest_in, has_urls, has_fields, described, is_descriptor, descriptors}
use Rattle.manifest_doc.specs.Documents.{is_small, has_descriptors, config, layers, is_of, is_named, is_free, IsDocument}
use Rattle.manifest_doc.specs.Members.{tells_digest, names_digest, frees_digest, lists_digest}
use Rattle.manifest_doc.proofs.DocumentLaws.{same_object, named_of, children_of}

-- ---- the object's elements are descriptors

good_at : (o : Option Kind) (small good : Bool) (kind : Kind) → option_map_or (λ k. cond (not small) (Err TooMany) (cond (not good) (Err BadDescriptor) (Ok k))) o (Err NoKind) ≡ Ok kind → good ≡ true
good_at None small good kind h = absurd (cc h)
good_at (Some k) false good kind h = absurd (cc h)
good_at (Some k) true false kind h = absurd (cc h)
good_at (Some k) true true kind h = refl

all_three : (a b c : Bool) → (a && b && c) ≡ true → (a ≡ true) × ((b ≡ true) × (c ≡ true))
all_three true true true h = (refl, (refl, refl))
all_three true true false h = absurd (true≢false (sym h))
all_three true false c h = absurd (true≢false (sym h))
all_three false b c h = absurd (true≢false (sym h))

-- the configuration, the layers and the listed manifests are descriptors
abbrev AreGood : Data → Type 0
AreGood d = (option_map_or is_descriptor (get (codes "config") d) true ≡ true) × ((list_all is_descriptor (elements (codes "layers") d) ≡ true) × (list_all is_descriptor (elements (codes "manifests") d) ≡ true))

are_good : (bytes : List ℕ) (doc : Doc) (d : Data) → IsDocument bytes doc → object_in bytes ≡ Some d → AreGood d
are_good bytes doc d h is =
    subst AreGood (same_object bytes h.object d h.is is) (all_three _ _ _ (good_at (kind_of_object h.object) (is_small h.object) (has_descriptors h.object) doc.kind h.document.kind))

-- ---- a descriptor has the digest that its member tells

told_at : (q : List ℕ) (fields : Bool) (o : Option (List ℕ)) (urls : Bool) (e : Descriptor) → cond fields (option_map (λ digest. record { digest = digest; has_urls = urls }) o) None ≡ Some e → (is_of q e ≡ option_map_or (pointwise nat_eq q) o false) × (e.has_urls ≡ urls)
told_at q true (Some digest) urls e h =
    let same : record { digest = digest; has_urls = urls } ≡ e = cc h in
    (sym (ap (is_of q) same), sym (ap (λ (x : Descriptor). x.has_urls) same))
told_at q true None urls e h = absurd (cc h)
told_at q false o urls e h = absurd (cc h)

told : (q : List ℕ) (d : Data) (e : Descriptor) → described d ≡ Some e → (is_of q e ≡ tells_digest q d) × (e.has_urls ≡ has_urls d)
told q d e is = told_at q (has_fields d) (digest_in d) (has_urls d) e is

either : (a b c d : Bool) → a ≡ b → c ≡ d → (a || c) ≡ (b || d)
either a b c d p q = rw (p, q) refl

both : (a b c d : Bool) → a ≡ b → c ≡ d → (a && c) ≡ (b && d)
both a b c d p q = rw (p, q) refl

any_told : (q : List ℕ) (ds : List Data) → list_all is_descriptor ds ≡ true → list_any (is_of q) (descriptors ds) ≡ list_any (tells_digest q) ds
any_told q [] good = refl
any_told q (d ∷ ds) good =
    let parts = and_parts (is_descriptor d) (list_all is_descriptor ds) good in
    at_found (described d) refl parts.0 (any_told q ds parts.1)
  where
    at_found : (o : Option Descriptor) → described d ≡ o → is_some o ≡ true → list_any (is_of q) (descriptors ds) ≡ list_any (tells_digest q) ds → list_any (is_of q) (option_map_or (λ e. e ∷ descriptors ds) o (descriptors ds)) ≡ (tells_digest q d || list_any (tells_digest q) ds)
    at_found None is here rest = absurd (true≢false (sym here))
    at_found (Some e) is here rest = either _ _ _ _ (told q d e is).0 rest

-- where it tells the digest, it has URLs
abbrev frees : List ℕ → Data → Bool
frees q d = not (tells_digest q d) || has_urls d

abbrev is_freed : List ℕ → Descriptor → Bool
is_freed q e = not (is_of q e) || e.has_urls

all_told : (q : List ℕ) (ds : List Data) → list_all is_descriptor ds ≡ true → list_all (is_freed q) (descriptors ds) ≡ list_all (frees q) ds
all_told q [] good = refl
all_told q (d ∷ ds) good =
    let parts = and_parts (is_descriptor d) (list_all is_descriptor ds) good in
    at_found (described d) refl parts.0 (all_told q ds parts.1)
  where
    at_found : (o : Option Descriptor) → described d ≡ o → is_some o ≡ true → list_all (is_freed q) (descriptors ds) ≡ list_all (frees q) ds → list_all (is_freed q) (option_map_or (λ e. e ∷ descriptors ds) o (descriptors ds)) ≡ (frees q d && list_all (frees q) ds)
    at_found None is here rest = absurd (true≢false (sym here))
    at_found (Some e) is here rest = let t = told q d e is in both _ _ _ _ (either _ _ _ _ (ap not t.0) t.1) rest

config_told : (q : List ℕ) (o : Option Data) → option_map_or is_descriptor o true ≡ true → option_map_or (is_of q) (option_and_then described o) false ≡ option_map_or (tells_digest q) o false
config_told q None good = refl
config_told q (Some d) good = at_found (described d) refl good where
  at_found : (o : Option Descriptor) → described d ≡ o → is_some o ≡ true → option_map_or (is_of q) o false ≡ tells_digest q d
  at_found None is here = absurd (true≢false (sym here))
  at_found (Some e) is here = (told q d e is).0

named_told : (q : List ℕ) (d : Data) → AreGood d → is_named q (config d) (layers d) ≡ names_digest q d
named_told q d good = either _ _ _ _ (config_told q (get (codes "config") d) good.0) (any_told q (elements (codes "layers") d) good.1.0)

free_told : (q : List ℕ) (d : Data) → AreGood d → is_free q (config d) (layers d) ≡ frees_digest q d
free_told q d good = both _ _ _ _ (ap not (config_told q (get (codes "config") d) good.0)) (all_told q (elements (codes "layers") d) good.1.0)

-- ---- documents

-- what a document names
pub names_of : (bytes : List ℕ) (doc : Doc) (d : Data) → IsDocument bytes doc → object_in bytes ≡ Some d → (q : List ℕ) → has_digest q (digests_of doc.named) ≡ names_digest q d
names_of bytes doc d h is q = named_of bytes doc d h is q ∙ named_told q d (are_good bytes doc d h is)

-- which of what it names is free
pub frees_of : (bytes : List ℕ) (doc : Doc) (d : Data) → IsDocument bytes doc → object_in bytes ≡ Some d → (q : List ℕ) → free_in q doc.named ≡ cond (names_digest q d) (Some (frees_digest q d)) None
frees_of bytes doc d h is q =
    let good = are_good bytes doc d h is in
    let by_object : free_in q doc.named ≡ cond (is_named q (config d) (layers d)) (Some (is_free q (config d) (layers d))) None =
    subst (λ o. free_in q doc.named ≡ cond (is_named q (config o) (layers o)) (Some (is_free q (config o) (layers o))) None) (same_object bytes h.object d h.is is) (h.document.named.exact q) in
    by_object ∙ ap (λ b. cond b (Some (is_free q (config d) (layers d))) None) (named_told q d good) ∙ ap (λ b. cond (names_digest q d) (Some b) None) (free_told q d good)

-- what it lists
pub lists_of : (bytes : List ℕ) (doc : Doc) (d : Data) → IsDocument bytes doc → object_in bytes ≡ Some d → (q : List ℕ) → has_digest q doc.children ≡ lists_digest q d
lists_of bytes doc d h is q = children_of bytes doc d h is q ∙ any_told q (elements (codes "manifests") d) (are_good bytes doc d h is).1.1
