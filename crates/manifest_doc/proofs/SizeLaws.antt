-- How much a document names and lists.
use Rattle.std.proofs.Common.{◌≡◌, ℕ, ◌+◌, ◌≤◌, Bool, true, false, cond, not, List, [], ◌∷◌, length, codes, Option, Some, None, Result, Ok, Err, refl, subst, arith}
use Rattle.std.specs.Prelude.{◌&&◌, nat_le, IfOk}
use Rattle.std.specs.Option.{option_map_or}
use Rattle.std.specs.Ordering.{nat_cmp}
use Rattle.std.specs.declared.cmp.Ordering.{Ordering}
use Rattle.std.specs.declared.cmp.Ordering.TheVariants.{Less, Equal, Greater}
use Rattle.std.specs.Cmp.Lexicographic.{slice_cmp}
use Rattle.std.proofs.Math.Nat.{le_trans}
use Rattle.std.proofs.lemmas.Bool.{and_parts}
use Rattle.std.proofs.lemmas.Bool.Decides.{nat_tests}
use Rattle.std.proofs.lemmas.List.{length-map}
use Rattle.serde_json.specs.Data.{Data}
use Rattle.reg_names.specs.declared.kind.Kind.{Kind}
use Rattle.reg_names.specs.declared.named.Named.{Named}
use Rattle.manifest_doc.specs.declared.document.Doc.{Doc}
use Rattle.manifest_doc.specs.declared.fault.DocFault.{DocFault}
use Rattle.manifest_doc.specs.declared.fault.DocFault.TheVariants.{NoKind, BadDescriptor, TooMany}
use Rattle.manifest_doc.specs.declared.descriptors.Descriptor.{Descriptor}
use Rattle.manifest_doc.specs.Kinds.{kind_of_object}
use Rattle.manifest_doc.specs.Descriptors.{elements, described, descriptors}
use Rattle.manifest_doc.specs.Documents.{element_limit, is_small, has_descriptors, config, layers, manifests, is_free, IsDocument}
use Rattle.manifest_doc.specs.OneDocument.{put_by, with_digest, in_order, digests_in, occurring, named_in, document_by}
use Rattle.manifest_doc.proofs.DocumentLaws.{one_document}
use Rattle.manifest_doc.proofs.OneDocumentLaws.{doc_is}

-- ---- a list in order is no longer than the digests that were put

put_by-length : (o : Ordering) (digest first : List ℕ) (rest put : List (List ℕ)) → length put ≤ length rest + 1 → length (put_by o digest first rest put) ≤ length rest + 2
put_by-length Less digest first rest put h = omega arith
put_by-length Equal digest first rest put h = omega arith
put_by-length Greater digest first rest put h = omega arith

with_digest-length : (digest : List ℕ) (digests : List (List ℕ)) → length (with_digest digest digests) ≤ length digests + 1
with_digest-length digest [] = omega arith
with_digest-length digest (first ∷ rest) = let h = put_by-length (slice_cmp nat_cmp digest first) digest first rest (with_digest digest rest) (with_digest-length digest rest) in omega arith

in_order-length : (digests : List (List ℕ)) → length (in_order digests) ≤ length digests
in_order-length [] = omega arith
in_order-length (digest ∷ digests) =
    let more = with_digest-length digest (in_order digests) in
    let before = in_order-length digests in
    omega arith

-- ---- descriptors are no more than the elements

one_more : (o : Option Descriptor) (ds : List Descriptor) (n : ℕ) → length ds ≤ n → length (option_map_or (λ e. e ∷ ds) o ds) ≤ n + 1
one_more None ds n h = omega arith
one_more (Some e) ds n h = omega arith

descriptors-length : (ds : List Data) → length (descriptors ds) ≤ length ds
descriptors-length [] = omega arith
descriptors-length (d ∷ ds) = let h = one_more (described d) (descriptors ds) (length ds) (descriptors-length ds) in omega arith

occurring-length : (o : Option Descriptor) (es : List Descriptor) → length (occurring o es) ≤ length es + 1
occurring-length None es = rw (length-map es (λ e. e.digest)) (omega arith)
occurring-length (Some c) es = rw (length-map es (λ e. e.digest)) (omega arith)

named_in-length : (o : Option Descriptor) (es : List Descriptor) → length (named_in o es) ≤ length es + 1
named_in-length o es =
    rw (length-map {B = Named} (in_order (occurring o es)) (λ digest. record { digest = digest; free = is_free digest o es }))
    (le_trans (in_order-length (occurring o es)) (occurring-length o es))

children-in : (es : List Descriptor) → length (in_order (digests_in es)) ≤ length es
children-in es = let h = in_order-length (digests_in es) in rw (length-map es (λ e. e.digest)) at h

-- ---- documents

small_at : (o : Option Kind) (small good : Bool) (kind : Kind) → option_map_or (λ k. cond (not small) (Err TooMany) (cond (not good) (Err BadDescriptor) (Ok k))) o (Err NoKind) ≡ Ok kind → small ≡ true
small_at None small good kind h = absurd (cc h)
small_at (Some k) false good kind h = absurd (cc h)
small_at (Some k) true good kind h = refl

-- neither list of an object has more elements than it may have
record AreFew (d : Data) : Type 0 where
  layers : length (elements (codes "layers") d) ≤ element_limit
  manifests : length (elements (codes "manifests") d) ≤ element_limit

both_few : (a b : ℕ) → (nat_le a element_limit && nat_le b element_limit) ≡ true → (a ≤ element_limit) × (b ≤ element_limit)
both_few a b h = let p = and_parts (nat_le a element_limit) (nat_le b element_limit) h in (grind (arith, nat_tests, p.0), grind (arith, nat_tests, p.1))

are_few : (bytes : List ℕ) (doc : Doc) (h : IsDocument bytes doc) → AreFew h.object
are_few bytes doc h =
    let p = both_few _ _ (small_at (kind_of_object h.object) (is_small h.object) (has_descriptors h.object) doc.kind h.document.kind) in
    record { layers = p.0; manifests = p.1 }

same_document : (bytes : List ℕ) (doc : Doc) (h : IsDocument bytes doc) → document_by h.object doc.kind ≡ doc
same_document bytes doc h =
    one_document bytes (document_by h.object doc.kind) doc (record { object = h.object; is = h.is; document = doc_is h.object doc.kind h.document.kind }) h

-- it names at most 1,025 digests
pub named-length : (bytes : List ℕ) (doc : Doc) → IsDocument bytes doc → length doc.named ≤ element_limit + 1
named-length bytes doc h =
    let few = are_few bytes doc h in
    let a = named_in-length (config h.object) (layers h.object) in
    let b = descriptors-length (elements (codes "layers") h.object) in
    let all : length (named_in (config h.object) (layers h.object)) ≤ element_limit + 1 = omega (arith, a, b, few.layers) in
    subst (λ (x : Doc). length x.named ≤ element_limit + 1) (same_document bytes doc h) all

-- and lists at most 1,024
pub children-length : (bytes : List ℕ) (doc : Doc) → IsDocument bytes doc → length doc.children ≤ element_limit
children-length bytes doc h =
    let few = are_few bytes doc h in
    let a = children-in (manifests h.object) in
    let b = descriptors-length (elements (codes "manifests") h.object) in
    let all : length (in_order (digests_in (manifests h.object))) ≤ element_limit = omega (arith, a, b, few.manifests) in
    subst (λ (x : Doc). length x.children ≤ element_limit) (same_document bytes doc h) all

pub sizes_of : (bytes : List ℕ) (result : Result Doc DocFault) → IfOk result (IsDocument bytes) → IfOk result (λ doc. length doc.named ≤ element_limit + 1) × IfOk result (λ doc. length doc.children ≤ element_limit)
sizes_of bytes (Ok doc) h = (named-length bytes doc h, children-length bytes doc h)
sizes_of bytes (Err fault) h = (tt, tt)
