-- What is found in link files is the answer of the one-thread registry.
use Rattle.std.proofs.Common.{◌≡◌, ℕ, Bool, true, List, [], Option, Some, None, Result, Ok, Err, refl, sym, ap, subst}
use Rattle.std.specs.Prelude.{IsTrue, IfOk}
use Rattle.reg_names.specs.declared.reference.Reference.{Reference}
use Rattle.reg_names.specs.declared.refused.Refused.{Refused}
use Rattle.manifest_doc.specs.Stored.{IsStoredManifest}
use Rattle.depot_api.specs.Blobs.{Rest}
use Rattle.depot_api.specs.Files.{Files}
use Rattle.depot_api.specs.Holdings.{Holding, Finds, IfFound}
use Rattle.link_reading.specs.Meaning.{Means}
use Rattle.link_reading.specs.Answers.{Knows}
use Rattle.link_reading.specs.declared.manifests.StoredManifest.{StoredManifest}
use Rattle.reg_entries.specs.Listing.{IsListing}
use Rattle.reg_entries.specs.Numbers.{blob_unknown, manifest_unknown}
use Rattle.reg_entries.specs.declared.ask.Ask.{Ask}
use Rattle.reg_entries.specs.declared.ask.Ask.TheVariants as asks
use Rattle.reg_entries.specs.declared.reply.Reply.{Reply}
use Rattle.reg_entries.specs.declared.reply.Reply.TheVariants as replies
use Rattle.reg_model.specs.Answers.{lacking, LacksIn, BlobBy, ManifestBy, ManifestUnder, referred, IsReply, IsAnswer, plain, SendsBy}
use Rattle.reg_model.specs.Fits.{IsLacking, MayBe, Fits}
use Rattle.reg_model.proofs.ReplyLaws.{lacking_sends, of_lacking, manifest_fits, blob_fits}
use Rattle.files_service.specs.Facts.{facts_of}
use Rattle.files_service.specs.Answers.{Answers}
use Rattle.files_service.specs.InnerAnswers.{FindsBlob, FindsReferred, LacksManifest}

-- ---- what is lacked

lacking_answers : (held : Holding) (ask : Ask) (number : ℕ) (reply : Reply) → ((known : Bool) → Fits ask (plain (lacking known number))) → (IsTrue held.tells → IsReply (Means held.files) ask reply) → IsLacking number reply → Answers held ask (plain reply)
lacking_answers held ask number reply fits is h = record {
  is = λ tells. record { reply = is tells; sends = of_lacking number reply (λ r. SendsBy (facts_of held) ask [] r) (λ known. lacking_sends (facts_of held) ask known number) h };
  fits = of_lacking number reply (λ r. Fits ask (plain r)) fits h;
}

-- the call that tells what is lacked answers, where this is the answer to the ask
lacked : (held : Holding) (ask : Ask) (name : List ℕ) (number : ℕ) (result : Result Reply Refused) → ((known : Bool) → Fits ask (plain (lacking known number))) → ((reply : Reply) → IsTrue held.tells → LacksIn (Means held.files) name number reply → IsReply (Means held.files) ask reply)
    → Finds held result (λ files. LacksIn (Means files) name number) → IfOk result (IsLacking number) → IfOk result (λ reply. Answers held ask (plain reply))
lacked held ask name number (Ok reply) fits is finds lacks = lacking_answers held ask number reply fits (λ tells. is reply tells (finds tells)) lacks
lacked held ask name number (Err e) fits is finds lacks = tt

-- ---- manifests

manifest_is : (held : Holding) (name : List ℕ) (at : Option Reference) (m : StoredManifest) → FindsReferred held.files name at (Some m) → IsStoredManifest m.digest m.bytes m.doc → IsAnswer (facts_of held) (asks.GetManifest name at) (plain (replies.Manifest m.doc.kind m.digest m.bytes))
manifest_is held name at m f stored =
    let reply = replies.Manifest m.doc.kind m.digest m.bytes in
    let by = subst (λ k. ManifestBy (Means held.files) name m.digest k reply) (sym f.1.meant) (record { bytes = m.bytes; of = record { hashes = stored.hashes; size = refl }; is = refl }) in
    record {
      reply = subst (λ d. ManifestUnder (Means held.files) name d reply) (sym f.0) by;
      sends = (f.1.stored, refl);
    }

pub manifest_found : (held : Holding) (name : List ℕ) (at : Option Reference) (result : Result (Option StoredManifest) Refused) (m : StoredManifest) → result ≡ Ok (Some m) → Finds held result (λ files. FindsReferred files name at) → IfFound result (λ w. IsStoredManifest w.digest w.bytes w.doc) → IfFound result (λ w. MayBe at w.digest)
    → Answers held (asks.GetManifest name at) (plain (replies.Manifest m.doc.kind m.digest m.bytes))
manifest_found held name at result m e finds verified named =
    let stored = subst (λ r. IfFound r (λ w. IsStoredManifest w.digest w.bytes w.doc)) e verified in
    record {
      is = λ tells. manifest_is held name at m (subst (λ r. IfOk r (FindsReferred held.files name at)) e (finds tells)) stored;
      fits = ((subst (λ r. IfFound r (λ w. MayBe at w.digest)) e named, record { doc = m.doc; stored = stored; kind_is = refl }), refl);
    }

under_lacks : (files : Files) (name : List ℕ) (digest : Option (List ℕ)) (reply : Reply) → LacksManifest files name digest → LacksIn (Means files) name manifest_unknown reply → ManifestUnder (Means files) name digest reply
under_lacks files name None reply none h = h
under_lacks files name (Some digest) reply none h = subst (λ k. ManifestBy (Means files) name digest k reply) (sym none) h

pub manifest_missing : (held : Holding) (name : List ℕ) (at : Option Reference) (found : Result (Option StoredManifest) Refused) → found ≡ Ok None → Finds held found (λ files. FindsReferred files name at) → (result : Result Reply Refused) → Finds held result (λ files. LacksIn (Means files) name manifest_unknown) → IfOk result (IsLacking manifest_unknown)
    → IfOk result (λ reply. Answers held (asks.GetManifest name at) (plain reply))
manifest_missing held name at found e finds result =
    lacked held (asks.GetManifest name at) name manifest_unknown result
    (λ known. (manifest_fits at known, refl))
    (λ reply tells lacks. under_lacks held.files name (referred (Means held.files) name at) reply (subst (λ r. IfOk r (FindsReferred held.files name at)) e (finds tells)) lacks)

-- ---- blobs

pub blob_missing : {B : Type 0} (rest : B → Rest) (held : Holding) (name digest : List ℕ) (found : Result (Option B) Refused) → found ≡ Ok None → Finds held found (FindsBlob rest name digest) → (result : Result Reply Refused) → Finds held result (λ files. LacksIn (Means files) name blob_unknown) → IfOk result (IsLacking blob_unknown)
    → IfOk result (λ reply. Answers held (asks.GetBlob name digest) (plain reply))
blob_missing rest held name digest found e finds result =
    lacked held (asks.GetBlob name digest) name blob_unknown result
    (blob_fits digest)
    (λ reply tells lacks. subst (λ size. BlobBy (Means held.files) name digest size reply) (sym (subst (λ r. IfOk r (FindsBlob rest name digest held.files)) e (finds tells))) lacks)

-- ---- tags

pub tags_listed : (held : Holding) (name copy : List ℕ) (n : Option ℕ) (last : Option (List ℕ)) (tags : List (List ℕ)) (more : Option ℕ) (known : Result Bool Refused) (found : Result (List (List ℕ) × Option ℕ) Refused) → copy ≡ name → known ≡ Ok true → Finds held known (λ files. Knows (Means files) name) → found ≡ Ok (tags, more)
    → Finds held found (λ files listing. IsListing (Means files) name n last listing.0 listing.1) → Answers held (asks.Tags name n last) (plain (replies.Tags copy tags more))
tags_listed held name copy n last tags more known found same there knows listed lists =
    let is_known : IsTrue held.tells → Knows (Means held.files) name true = λ tells. subst (λ r. IfOk r (Knows (Means held.files) name)) there (knows tells) in
    let listing : IsTrue held.tells → IsListing (Means held.files) name n last tags more = λ tells. subst (λ r. IfOk r (λ listing. IsListing (Means held.files) name n last listing.0 listing.1)) listed (lists tells) in
    record {
      is = λ tells. record { reply = (true, is_known tells, record { tags = tags; more = more; listing = listing tells; is = ap (λ x. replies.Tags x tags more) same }); sends = refl };
      fits = (same, refl);
    }
