-- The document that bytes are, by the object in them.
use Rattle.std.proofs.Common.{◌≡◌, ℕ, List, [], ◌∷◌, nat_eq, Bool, true, false, cond, not, codes, Option, Some, None, Result, Ok, Err, ok_or, refl, sym, ap, subst, ◌∙◌}
use Rattle.std.specs.Prelude.{◌&&◌, ◌||◌, is_some, option_and_then, IfOk, IfErr}
use Rattle.std.specs.Option.{option_map_or}
use Rattle.std.specs.List.{list_all, list_any}
use Rattle.std.specs.Cmp.Lexicographic.{pointwise}
use Rattle.serde_json.specs.Data.{Data}
use Rattle.serde_json.specs.Find.{get}
use Rattle.reg_names.specs.declared.kind.Kind.{Kind}
use Rattle.reg_names.specs.declared.named.Named.{Named}
use Rattle.reg_names.specs.Named.{digests_of, free_in, has_digest}
use Rattle.reg_names.proofs.NamedLaws.{same_named, same_digests}
use Rattle.manifest_doc.specs.declared.document.Doc.{Doc}
use Rattle.manifest_doc.specs.declared.fault.DocFault.{DocFault}
use Rattle.manifest_doc.specs.declared.fault.DocFault.TheVariants.{NotJson, NoKind, BadDescriptor, TooMany, NoMemory}
use Rattle.manifest_doc.specs.Faults.{IsDue}
use Rattle.manifest_doc.specs.InnerReading.{config_read}
use Rattle.manifest_doc.specs.Kinds.{object_in, kind_of_object}
use Rattle.manifest_doc.specs.Descriptors.{elements, described, is_descriptor, descriptors}
use Rattle.manifest_doc.specs.Documents.{is_small, judged, verdict, config, layers, manifests, is_of, is_named, AreNamed, AreChildren, IsObjectDocument, IsDocument}
use Rattle.manifest_doc.specs.declared.descriptors.Descriptor.{Descriptor}

fault_of : (o : Option Data) (f : Data → Result Kind DocFault) (fault : DocFault) → ok_or o NotJson ≡ Err fault → option_map_or f o (Err NotJson) ≡ Err fault
fault_of None f fault e = cc
fault_of (Some d) f fault e = cc

-- bytes that are no object
pub not_read : (bytes : List ℕ) (fault : DocFault) → IsDue (ok_or (object_in bytes) NotJson) fault → IsDue (verdict bytes) fault
unfolding verdict
not_read bytes NotJson h = fault_of (object_in bytes) _ NotJson h
not_read bytes NoKind h = fault_of (object_in bytes) _ NoKind h
not_read bytes BadDescriptor h = fault_of (object_in bytes) _ BadDescriptor h
not_read bytes TooMany h = fault_of (object_in bytes) _ TooMany h
not_read bytes NoMemory h = tt

failed_of : (bytes : List ℕ) (d : Data) (fault : DocFault) → object_in bytes ≡ Some d → IsDue (judged d) fault → IsDue (verdict bytes) fault
unfolding verdict
failed_of bytes d NotJson is h = ap (λ o. option_map_or judged o (Err NotJson)) is ∙ h
failed_of bytes d NoKind is h = ap (λ o. option_map_or judged o (Err NotJson)) is ∙ h
failed_of bytes d BadDescriptor is h = ap (λ o. option_map_or judged o (Err NotJson)) is ∙ h
failed_of bytes d TooMany is h = ap (λ o. option_map_or judged o (Err NotJson)) is ∙ h
failed_of bytes d NoMemory is h = tt

-- bytes that are an object: their document is the object's, and the test that they fail is the one that it fails
pub read_of : (bytes : List ℕ) (d : Data) (result : Result Doc DocFault) → object_in bytes ≡ Some d → IfOk result (IsObjectDocument d) → IfOk result (IsDocument bytes)
read_of bytes d (Ok doc) is h = record { object = d; is = is; document = h }
read_of bytes d (Err fault) is h = tt

pub fault_of_object : (bytes : List ℕ) (d : Data) (result : Result Doc DocFault) → object_in bytes ≡ Some d → IfErr result (IsDue (judged d)) → IfErr result (IsDue (verdict bytes))
fault_of_object bytes d (Ok doc) is h = tt
fault_of_object bytes d (Err fault) is h = failed_of bytes d fault is h

passed : (o : Option Kind) (kind : Kind) (small configured layered listing : Bool) → o ≡ Some kind → small ≡ true → configured ≡ true → layered ≡ true → listing ≡ true → option_map_or (λ k. cond (not small) (Err TooMany) (cond (not (configured && layered && listing)) (Err BadDescriptor) (Ok k))) o (Err NoKind) ≡ Ok kind
passed o kind small configured layered listing a b c e f = rw (a, b, c, e, f) refl

described_config : (o : Option Descriptor) (config : Option Descriptor) → Ok config ≡ option_map_or (λ e. Ok (Some e)) o (Err BadDescriptor) → (is_some o ≡ true) × (config ≡ o)
described_config None config is = absurd (cc is)
described_config (Some e) config is = (refl, cc is)

read_config : (o : Option Data) (config : Option Descriptor) → Ok config ≡ config_read o → (option_map_or is_descriptor o true ≡ true) × (config ≡ option_and_then described o)
read_config None config is = (refl, cc is)
read_config (Some d) config is = described_config (described d) config is

-- what was read of an object that passes the tests
pub record WasRead (d : Data) (doc : Doc) : Type 0 where
  pub config : Option Descriptor
  pub layer_values : List Data
  pub manifest_values : List Data
  pub layers : List Descriptor
  pub manifests : List Descriptor
  pub kind_is : kind_of_object d ≡ Some doc.kind
  pub small : is_small d ≡ true
  pub config_is : Ok config ≡ config_read (get (codes "config") d)
  pub layers_from : layer_values ≡ elements (codes "layers") d
  pub layers_all : list_all is_descriptor layer_values ≡ true
  pub layers_are : layers ≡ descriptors layer_values
  pub manifests_from : manifest_values ≡ elements (codes "manifests") d
  pub manifests_all : list_all is_descriptor manifest_values ≡ true
  pub manifests_are : manifests ≡ descriptors manifest_values
  pub named : AreNamed config layers doc.named
  pub children : AreChildren manifests doc.children

pub document_as_read : (d : Data) (doc : Doc) → WasRead d doc → IsObjectDocument d doc
document_as_read d doc w =
    let c = read_config (get (codes "config") d) w.config w.config_is in
    record {
      kind = passed (kind_of_object d) doc.kind (is_small d) (option_map_or is_descriptor (get (codes "config") d) true) (list_all is_descriptor (elements (codes "layers") d)) (list_all is_descriptor (elements (codes "manifests") d)) w.kind_is w.small c.0 (sym (ap (list_all is_descriptor) w.layers_from) ∙ w.layers_all) (sym (ap (list_all is_descriptor) w.manifests_from) ∙ w.manifests_all);
      named = subst (λ o. AreNamed o (layers d) doc.named) c.1 (subst (λ es. AreNamed w.config es doc.named) (w.layers_are ∙ ap descriptors w.layers_from) w.named);
      children = subst (λ es. AreChildren es doc.children) (w.manifests_are ∙ ap descriptors w.manifests_from) w.children;
    }

-- the bytes of a document pass the tests
pub passes : (bytes : List ℕ) (doc : Doc) → IsDocument bytes doc → verdict bytes ≡ Ok doc.kind
unfolding verdict
passes bytes doc h = ap (λ o. option_map_or judged o (Err NotJson)) h.is ∙ h.document.kind

pub same_object : (bytes : List ℕ) (d e : Data) → object_in bytes ≡ Some d → object_in bytes ≡ Some e → d ≡ e
same_object bytes d e p q = cc (sym p ∙ q)

listed_of : (q : List ℕ) (ns : List Named) → has_digest q (digests_of ns) ≡ is_some (free_in q ns)
listed_of q [] = refl
listed_of q (n ∷ ns) = at_test (pointwise nat_eq q n.digest) (listed_of q ns) where
  at_test : (t : Bool) → has_digest q (digests_of ns) ≡ is_some (free_in q ns) → (t || has_digest q (digests_of ns)) ≡ is_some (cond t (Some n.free) (free_in q ns))
  at_test true h = refl
  at_test false h = h

is_there : (t free : Bool) → is_some (cond t (Some free) None) ≡ t
is_there true free = refl
is_there false free = refl

-- what a document names
pub named_of : (bytes : List ℕ) (doc : Doc) (d : Data) → IsDocument bytes doc → object_in bytes ≡ Some d → (q : List ℕ) → has_digest q (digests_of doc.named) ≡ is_named q (config d) (layers d)
named_of bytes doc d h is q =
    subst (λ o. has_digest q (digests_of doc.named) ≡ is_named q (config o) (layers o)) (same_object bytes h.object d h.is is) (listed_of q doc.named ∙ ap is_some (h.document.named.exact q) ∙ is_there _ _)

-- what a document lists
pub children_of : (bytes : List ℕ) (doc : Doc) (d : Data) → IsDocument bytes doc → object_in bytes ≡ Some d → (q : List ℕ) → has_digest q doc.children ≡ list_any (is_of q) (manifests d)
children_of bytes doc d h is q =
    subst (λ o. has_digest q doc.children ≡ list_any (is_of q) (manifests o)) (same_object bytes h.object d h.is is) (h.document.children.exact q)

same_kind : (r : Result Kind DocFault) (k l : Kind) → r ≡ Ok k → r ≡ Ok l → k ≡ l
same_kind r k l p q = cc (sym p ∙ q)

same_value : (d : Data) (a b : Doc) → IsObjectDocument d a → IsObjectDocument d b → a ≡ b
same_value d a b h k =
    let kinds = same_kind (judged d) a.kind b.kind h.kind k.kind in
    let named = same_named a.named b.named h.named.ascending k.named.ascending (λ q. h.named.exact q ∙ sym (k.named.exact q)) in
    let children = same_digests a.children b.children h.children.ascending k.children.ascending (λ q. h.children.exact q ∙ sym (k.children.exact q)) in
    λ i. record { kind = kinds i; named = named i; children = children i }

-- bytes are one document at most
pub one_document : (bytes : List ℕ) (a b : Doc) → IsDocument bytes a → IsDocument bytes b → a ≡ b
one_document bytes a b h k =
    same_value k.object a b (subst (λ d. IsObjectDocument d a) (same_object bytes h.object k.object h.is k.is) h.document) k.document
