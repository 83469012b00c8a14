-- What is told of bytes that are pushed.
use Rattle.std.proofs.Common.{◌≡◌, ℕ, Bool, true, false, cond, List, Option, Some, None, Result, Ok, Err, sym, ap, ◌∙◌, subst}
use Rattle.std.specs.Prelude.{codes, IfOk}
use Rattle.reg_names.specs.declared.refused.NoMemory.{NoMemory}
use Rattle.reg_names.specs.declared.kind.Kind.{Kind}
use Rattle.manifest_doc.specs.ContentTypes.{may_type}
use Rattle.manifest_doc.specs.Documents.{IsDocument, verdict}
use Rattle.manifest_doc.specs.OneDocument.{document_in}
use Rattle.manifest_doc.specs.Pushed.{wrong_with, IsJudged, word_for, IsTold}
use Rattle.manifest_doc.specs.declared.document.Doc.{Doc}
use Rattle.manifest_doc.specs.declared.fault.DocFault.{DocFault}
use Rattle.manifest_doc.specs.declared.pushed.Judged.{Judged}
use Rattle.manifest_doc.specs.declared.pushed.Judged.TheVariants.{Good, Bad}
use Rattle.manifest_doc.proofs.DocumentLaws.{passes}
use Rattle.manifest_doc.proofs.OneDocumentLaws.{computed}

-- ---- how bytes are judged

pub judged_good : (typed : Option (List ℕ)) (bytes : List ℕ) (doc : Doc) → IsDocument bytes doc → may_type typed doc.kind ≡ true → IsJudged typed bytes (Good doc)
judged_good typed bytes doc h fits =
    (h, ap (wrong_with typed) (passes bytes doc h) ∙ ap (λ (v : Bool). cond v None (Some (codes "Kind"))) fits)

judged_kind : (typed : Option (List ℕ)) (bytes : List ℕ) (doc : Doc) → IsDocument bytes doc → may_type typed doc.kind ≡ false → IsJudged typed bytes (Bad (codes "Kind"))
judged_kind typed bytes doc h fits =
    ap (wrong_with typed) (passes bytes doc h) ∙ ap (λ (v : Bool). cond v None (Some (codes "Kind"))) fits

pub if_bad_kind : (typed : Option (List ℕ)) (bytes : List ℕ) (doc : Doc) (result : Result Judged NoMemory) → IsDocument bytes doc → may_type typed doc.kind ≡ false → IfOk result (λ judged. judged ≡ Bad (codes "Kind")) → IfOk result (IsJudged typed bytes)
if_bad_kind typed bytes doc (Ok judged) h fits is = subst (IsJudged typed bytes) (sym is) (judged_kind typed bytes doc h fits)
if_bad_kind typed bytes doc (Err e) h fits is = tt

-- ---- what is told, whatever the type was

by_type : (fits : Bool) (word : List ℕ) → ◌≡◌ {A = Option (List ℕ)} (cond fits None (Some (codes "Kind"))) (Some word) → word ≡ codes "Kind"
by_type true word e = absurd (cc e)
by_type false word e = cc

word_told : (typed : Option (List ℕ)) (v : Result Kind DocFault) (word : List ℕ) → wrong_with typed v ≡ Some word → word ≡ word_for v
word_told typed (Ok kind) word e = by_type (may_type typed kind) word e
word_told typed (Err fault) word e = cc

pub told : (typed : Option (List ℕ)) (bytes : List ℕ) (judged : Judged) → IsJudged typed bytes judged → IsTold bytes judged
told typed bytes (Good doc) h = record {
  good = λ d e. (let same : doc ≡ d = cc in subst (λ (x : Doc). document_in bytes ≡ Some x) same ((computed bytes doc).1 h.0));
  bad = λ w e. absurd (cc e);
}
told typed bytes (Bad word) h = record {
  good = λ d e. absurd (cc e);
  bad = λ w e. (let same : word ≡ w = cc in subst (λ (x : List ℕ). x ≡ word_for (verdict bytes)) same (word_told typed (verdict bytes) word h));
}
