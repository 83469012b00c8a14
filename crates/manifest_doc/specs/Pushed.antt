-- What is told of bytes that are pushed as a manifest.
use Rattle.std.specs.Prelude.{◌≡◌, ℕ, if◌then◌else◌, List, codes, Option, Some, None, Result, Ok, Err}
use Rattle.reg_names.specs.declared.kind.Kind.{Kind}
use Rattle.manifest_doc.specs.ContentTypes.{may_type}
use Rattle.manifest_doc.specs.Documents.{IsDocument, verdict}
use Rattle.manifest_doc.specs.OneDocument.{document_in}
use Rattle.manifest_doc.specs.declared.document.Doc.{Doc}
use Rattle.manifest_doc.specs.declared.fault.DocFault.{DocFault}
use Rattle.manifest_doc.specs.declared.fault.DocFault.TheVariants.{NotJson, NoKind, BadDescriptor, TooMany, NoMemory}
use Rattle.manifest_doc.specs.declared.pushed.Judged.{Judged}
use Rattle.manifest_doc.specs.declared.pushed.Judged.TheVariants.{Good, Bad}

-- a fault in a word
abbrev pub fault_name : DocFault → List ℕ
fault_name NotJson = codes "NotJson"
fault_name NoKind = codes "NoKind"
fault_name BadDescriptor = codes "BadDescriptor"
fault_name TooMany = codes "TooMany"
fault_name NoMemory = codes "NoMemory"

-- what is wrong with bytes, by the word for it: the first test that they fail, or else that their type is another
abbrev pub wrong_with : Option (List ℕ) → Result Kind DocFault → Option (List ℕ)
wrong_with typed (Ok kind) = if may_type typed kind then None else Some (codes "Kind")
wrong_with typed (Err fault) = Some (fault_name fault)

-- bytes that came with a Content-Type, or without one, are this document, or are wrong in this word
abbrev pub IsJudged : Option (List ℕ) → List ℕ → Judged → Type 0
IsJudged typed bytes (Good doc) = IsDocument bytes doc × (wrong_with typed (verdict bytes) ≡ None)
IsJudged typed bytes (Bad word) = wrong_with typed (verdict bytes) ≡ Some word

-- the word for what is wrong with bytes that are refused: where they pass the tests, it is their type
abbrev pub word_for : Result Kind DocFault → List ℕ
word_for (Ok kind) = codes "Kind"
word_for (Err fault) = fault_name fault

-- what is told of bytes, whatever their type was: the document is theirs, and the word is for them
pub record IsTold (bytes : List ℕ) (judged : Judged) : Type 0 where
  pub good : (doc : Doc) → judged ≡ Good doc → document_in bytes ≡ Some doc
  pub bad : (word : List ℕ) → judged ≡ Bad word → word ≡ word_for (verdict bytes)
