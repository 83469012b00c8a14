-- What bytes are a stored manifest: those of a document, no more than a registry takes, under the digest that they have.
use Rattle.std.specs.Prelude.{◌≤◌, ℕ, ◌&&◌, nat_le, if◌then◌else◌, List, length, Option, None, IsTrue}
use Rattle.reg_digest.specs.Hashing.{hashes_to}
use Rattle.manifest_doc.specs.Documents.{IsDocument}
use Rattle.manifest_doc.specs.OneDocument.{document_in}
use Rattle.manifest_doc.specs.declared.document.Doc.{Doc}

-- the most bytes that a manifest may have: 4 MiB
abbrev pub manifest_limit : ℕ
manifest_limit = 4194304

-- The bytes are the manifest that a registry stores under the digest, with this document.
pub record IsStoredManifest (digest bytes : List ℕ) (doc : Doc) : Type 0 where
  pub short : length bytes ≤ manifest_limit
  pub hashes : IsTrue (hashes_to digest bytes)
  pub document : IsDocument bytes doc

-- the document of the manifest that bytes are under a digest
abbrev pub stored_in : List ℕ → List ℕ → Option Doc
stored_in digest bytes =
    if nat_le (length bytes) manifest_limit && hashes_to digest bytes then document_in bytes else None
