-- What is found in tables is the answer of the one-thread registry.
use Rattle.std.proofs.Common.{◌≡◌, ℕ, Bool, true, false, List, [], length, Option, Some, None, Result, Ok, Err, refl, sym, ap, subst, ◌∙◌, true≢false}
use Rattle.std.specs.Prelude.{IfOk, is_some, option_and_then}
use Rattle.std.proofs.lemmas.Option.{same_Some}
use Rattle.manifest_doc.specs.declared.document.Doc.{Doc}
use Rattle.manifest_doc.specs.Stored.{stored_in}
use Rattle.manifest_doc.proofs.StoredLaws.{stored_computed}
use Rattle.reg_entries.specs.Documents.{KeptManifest, kept_of}
use Rattle.reg_entries.specs.declared.trouble.Trouble.{Trouble}
use Rattle.reg_journal.specs.Changes.{replay}
use Rattle.reg_journal.specs.Past.{shown}
use Rattle.reg_journal.specs.declared.entry.Entry.{Entry}
use Rattle.depot_api.specs.Blobs.{Rest}
use Rattle.depot_api.specs.Holdings.{Holding}
use Rattle.reg_entries.specs.Numbers.{blob_unknown}
use Rattle.reg_entries.specs.declared.ask.Ask.TheVariants as asks
use Rattle.reg_entries.specs.declared.reply.Reply.{Reply}
use Rattle.reg_model.specs.Answers.{LacksIn, BlobBy, Answer, IsAnswer, SendsBy, plain}
use Rattle.reg_model.specs.Blobs.{GivesBlob}
use Rattle.reg_model.specs.Fits.{IsLacking}
use Rattle.reg_model.proofs.ReplyLaws.{lacking_sends, of_lacking, alone}
use Rattle.keeper_api.specs.Rows.{Kept, Finds}
use Rattle.reg_tables.specs.Keys.{payload_key}
use Rattle.tables_service.specs.InnerAnswers.{FindsPayload, FindsKept}
use Rattle.tables_service.specs.Telling.{AreTablesOf, IsPayload, facts_of}

some_not_none : {A : Type 0} (x : A) → Some x ≡ None → ⊥
some_not_none x e = true≢false (ap is_some e)

-- ---- manifests

module _ (journal : List Entry) (kept : Kept) (t : AreTablesOf journal kept) (name digest : List ℕ) where
  abbrev kept_here : Option KeptManifest
  kept_here = (shown (replay journal)).manifests name digest

  abbrev row : Option (List ℕ)
  row = kept.rows (payload_key name digest)

  -- what is kept of a manifest is what its payload is
  payload_kept : (k : KeptManifest) (m : Doc × List ℕ) → IsPayload digest k row → row ≡ Some m.1 → stored_in digest m.1 ≡ Some m.0 → k ≡ kept_of m.0.kind (length m.1) m.0.named m.0.children
  payload_kept k m p there stored =
      let bytes : p.bytes ≡ m.1 = same_Some p.bytes m.1 (sym p.there ∙ there) in
      let computed : stored_in digest p.bytes ≡ Some p.doc = (stored_computed digest p.bytes p.doc).1 p.stored in
      let doc : p.doc ≡ m.0 = same_Some p.doc m.0 (sym computed ∙ ap (stored_in digest) bytes ∙ stored) in
      p.kept ∙ ap (λ (d : Doc). kept_of d.kind (length p.bytes) d.named d.children) doc ∙ ap (λ (b : List ℕ). kept_of m.0.kind (length b) m.0.named m.0.children) bytes

  payload_there : (k : KeptManifest) → IsPayload digest k row → option_and_then (stored_in digest) row ≡ None → ⊥
  payload_there k p none =
      let computed : stored_in digest p.bytes ≡ Some p.doc = (stored_computed digest p.bytes p.doc).1 p.stored in
      some_not_none p.doc (sym computed ∙ ap (option_and_then (stored_in digest)) (sym p.there) ∙ none)

  kept_found : (o : Option KeptManifest) → kept_here ≡ o → is_some o ≡ true → (found : Option (Doc × List ℕ)) → FindsPayload digest row found → FindsKept (shown (replay journal)) kept.rows name digest found
  kept_found None e has found f = absurd (true≢false (sym has))
  kept_found (Some k) e has (Some m) f = (e ∙ ap Some (payload_kept k m (t.payloads name digest k e) f.0 f.1), f.0)
  kept_found (Some k) e has None f = absurd (payload_there k (t.payloads name digest k e) f)

  pub stored_found : is_some kept_here ≡ true → (result : Result (Option (Doc × List ℕ)) Trouble) → Finds kept result (λ rows. FindsPayload digest (rows (payload_key name digest))) → IfOk result (FindsKept (shown (replay journal)) kept.rows name digest)
  stored_found has (Ok found) finds = kept_found kept_here refl has found (finds t.told.tells)
  stored_found has (Err e) finds = tt

-- ---- blobs

lacks_link : (has : Bool) (o : Option ℕ) → has ≡ is_some o → has ≡ false → o ≡ None
lacks_link has None e n = refl
lacks_link has (Some size) e n = absurd (true≢false (sym e ∙ n))

module _ {B : Type 0} (rest : B → Rest) (journal : List Entry) (kept : Kept) (held : Holding) (name digest : List ℕ) where
  pub blob_lacked : (has : Bool) (reply : Reply) → has ≡ is_some ((shown (replay journal)).links name digest) → has ≡ false → LacksIn (shown (replay journal)) name blob_unknown reply → IsLacking blob_unknown reply → (answer : Answer) → GivesBlob rest (reply, None) answer → IsAnswer (facts_of journal kept.rows held) (asks.GetBlob name digest) answer
  blob_lacked has reply e n lacks fits =
      let none = lacks_link has ((shown (replay journal)).links name digest) e n in
      let says : IsAnswer (facts_of journal kept.rows held) (asks.GetBlob name digest) (plain reply) = record {
        reply = subst (λ size. BlobBy (shown (replay journal)) name digest size reply) (sym none) lacks;
        sends = of_lacking blob_unknown reply (λ r. SendsBy (facts_of journal kept.rows held) (asks.GetBlob name digest) [] r) (λ known. lacking_sends (facts_of journal kept.rows held) (asks.GetBlob name digest) known blob_unknown) fits;
      } in
      alone rest reply (IsAnswer (facts_of journal kept.rows held) (asks.GetBlob name digest)) says
