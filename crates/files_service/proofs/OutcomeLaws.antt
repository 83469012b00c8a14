-- What a request comes to, by what was looked up.
use Rattle.std.proofs.Common.{◌≡◌, ℕ, Bool, true, false, List, Option, Some, None, refl, sym, ap, subst, ◌∙◌, true≢false}
use Rattle.std.specs.Prelude.{codes, if◌then◌else◌, is_some}
use Rattle.reg_names.specs.Digests.{digest_text}
use Rattle.reg_names.specs.declared.reference.Reference.{Reference}
use Rattle.manifest_doc.specs.declared.document.Doc.{Doc}
use Rattle.manifest_doc.specs.declared.pushed.Judged.TheVariants.{Bad}
use Rattle.manifest_doc.specs.declared.pushed.Pushed.{Pushed}
use Rattle.reg_entries.specs.Numbers.{manifest_invalid, content_unknown, digest_differs, upload_in_use}
use Rattle.reg_entries.specs.declared.reply.Reply.{Reply}
use Rattle.reg_model.specs.Answers.{refusal}
use Rattle.reg_model.specs.Facts.{Facts}
use Rattle.reg_model.specs.Changing.{refuses, refusal_with, Starts, start_outcome, source_size, is_other, missing_in, stored_outcome, document_outcome, PushesDocument, PushesJudged, Pushes}

-- ---- starts

module _ (name id : List ℕ) (mount : Option (List ℕ × List ℕ)) (now : ℕ) (told : Type 0) (facts : Facts) where
  pub in_use : (stands : Bool) (reply : Reply) → stands ≡ true → reply ≡ refusal upload_in_use → (told → stands ≡ is_some (facts.uploads name id)) → Starts name id mount now told facts (refuses reply)
  in_use stands reply is same so = record {
    stands = true;
    size = source_size facts.state mount;
    stands_so = λ t. sym is ∙ so t;
    size_so = λ t. refl;
    is = ap refuses same;
  }

  pub starts_by : (stands : Bool) (size : Option ℕ) (m : Option (List ℕ × List ℕ)) → stands ≡ false → mount ≡ m → (told → stands ≡ is_some (facts.uploads name id)) → (told → size ≡ source_size facts.state m) → Starts name id mount now told facts (start_outcome name id m now false size)
  starts_by stands size m is which so size_so = record {
    stands = false;
    size = size;
    stands_so = λ t. sym is ∙ so t;
    size_so = λ t. size_so t ∙ ap (source_size facts.state) (sym which);
    is = ap (λ (m : Option (List ℕ × List ℕ)). start_outcome name id m now false size) (sym which);
  }

pub none_is : {A : Type 0} (o : Option A) → is_some o ≡ false → None ≡ o
none_is None h = refl
none_is (Some x) h = absurd (true≢false h)

pub some_is : {A : Type 0} (o : Option A) → is_some o ≡ true → (x : A) × (Some x ≡ o)
some_is None h = absurd (true≢false (sym h))
some_is (Some x) h = (x, refl)

-- ---- pushes

module _ (name : List ℕ) (at : Reference) (digest bytes : List ℕ) (doc : Doc) (told : Type 0) (facts : Facts) where
  by_digest : (missing : Option (List ℕ)) → is_other at digest ≡ false → stored_outcome name at digest bytes doc missing ≡ document_outcome name at digest bytes doc missing
  by_digest missing same =
      ap (λ (b : Bool). if b then refuses (refusal_with digest_differs (digest_text digest)) else stored_outcome name at digest bytes doc missing) (sym same)

  pub is_differing : (reply : Reply) → is_other at digest ≡ true → reply ≡ refusal_with digest_differs (digest_text digest) → PushesDocument name at digest bytes doc told facts (refuses reply)
  is_differing reply other same =
      let missing = missing_in facts.state name doc in record {
        missing = missing;
        missing_so = λ t. refl;
        is = ap refuses same ∙ ap (λ (b : Bool). if b then refuses (refusal_with digest_differs (digest_text digest)) else stored_outcome name at digest bytes doc missing) (sym other);
      }

  pub lacks_content : (missing : List ℕ) (reply : Reply) → is_other at digest ≡ false → (told → Some missing ≡ missing_in facts.state name doc) → reply ≡ refusal_with content_unknown (digest_text missing) → PushesDocument name at digest bytes doc told facts (refuses reply)
  lacks_content missing reply same so is = record {
    missing = Some missing;
    missing_so = so;
    is = ap refuses is ∙ by_digest (Some missing) same;
  }

  pub lacks_nothing : is_other at digest ≡ false → (told → None ≡ missing_in facts.state name doc) → PushesDocument name at digest bytes doc told facts (stored_outcome name at digest bytes doc None)
  lacks_nothing same so = record { missing = None; missing_so = so; is = by_digest None same }

pub no_reference : (name : List ℕ) (at : Option Reference) (pushed : Pushed) (told : Type 0) (facts : Facts) (reply : Reply) → at ≡ None → reply ≡ refusal_with manifest_invalid (codes "Reference") → Pushes name at pushed told facts (refuses reply)
no_reference name at pushed told facts reply none is =
    subst (λ (a : Option Reference). Pushes name a pushed told facts (refuses reply)) (sym none) (ap refuses is)

pub is_bad : (name : List ℕ) (at : Option Reference) (reference : Reference) (pushed : Pushed) (word : List ℕ) (told : Type 0) (facts : Facts) (reply : Reply) → at ≡ Some reference → pushed.judged ≡ Bad word → reply ≡ refusal_with manifest_invalid word → Pushes name at pushed told facts (refuses reply)
is_bad name at reference pushed word told facts reply some bad is =
    subst (λ (a : Option Reference). Pushes name a pushed told facts (refuses reply)) (sym some)
    (subst (λ j. PushesJudged name reference pushed.digest pushed.bytes j told facts (refuses reply)) (sym bad) (ap refuses is))
