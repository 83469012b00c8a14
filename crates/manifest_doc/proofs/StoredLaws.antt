-- The manifest that bytes are under a digest is what is computed of them.
use Rattle.std.proofs.Common.{◌≡◌, ℕ, ◌≤◌, Bool, true, false, cond, List, length, Some, None, Err, refl, sym, arith}
use Rattle.std.specs.Prelude.{nat_le, ◌&&◌, ◌↔◌}
use Rattle.std.proofs.lemmas.Bool.Decides.{nat_tests}
use Rattle.reg_digest.specs.Hashing.{hashes_to}
use Rattle.manifest_doc.specs.declared.document.Doc.{Doc}
use Rattle.manifest_doc.specs.declared.fault.DocFault.{DocFault}
use Rattle.manifest_doc.specs.Documents.{IsDocument, verdict}
use Rattle.manifest_doc.specs.OneDocument.{document_in}
use Rattle.manifest_doc.specs.Stored.{manifest_limit, IsStoredManifest, stored_in}
use Rattle.manifest_doc.proofs.OneDocumentLaws.{computes, computed, not_computed}

-- bytes that pass both tests and are a document
pub stored : (digest bytes : List ℕ) (doc : Doc) → length bytes ≤ manifest_limit → hashes_to digest bytes ≡ true → IsDocument bytes doc → Some doc ≡ stored_in digest bytes
stored digest bytes doc short hashes document =
    let is_short : nat_le (length bytes) manifest_limit ≡ true = grind (arith, nat_tests) in
    rw (is_short, hashes) (sym (computes bytes doc document))

-- bytes that are no document
pub not_stored : (digest bytes : List ℕ) (fault : DocFault) → verdict bytes ≡ Err fault → stored_in digest bytes ≡ None
not_stored digest bytes fault fails = at_test _ (not_computed bytes fault fails) where
  at_test : (b : Bool) → document_in bytes ≡ None → cond b (document_in bytes) None ≡ None
  at_test true none = none
  at_test false none = refl

is_stored : (digest bytes : List ℕ) (doc : Doc) → stored_in digest bytes ≡ Some doc → IsStoredManifest digest bytes doc
is_stored digest bytes doc e = at_tests _ _ refl refl e where
  at_tests : (short hashes : Bool) → nat_le (length bytes) manifest_limit ≡ short → hashes_to digest bytes ≡ hashes → cond (short && hashes) (document_in bytes) None ≡ Some doc → IsStoredManifest digest bytes doc
  at_tests true true s h e = record { short = grind (arith, nat_tests); hashes = h; document = (computed bytes doc).0 e }
  at_tests true false s h e = absurd (cc e)
  at_tests false hashes s h e = absurd (cc e)

pub stored_computed : (digest bytes : List ℕ) (doc : Doc) → (stored_in digest bytes ≡ Some doc) ↔ IsStoredManifest digest bytes doc
stored_computed digest bytes doc = (is_stored digest bytes doc, λ h. sym (stored digest bytes doc h.short h.hashes h.document))
