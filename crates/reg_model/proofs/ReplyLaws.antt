-- What replies say, whatever the registry has.
use Rattle.std.proofs.Common.{◌≡◌, ℕ, Bool, true, false, List, [], Option, Some, None, refl, sym, subst}
use Rattle.reg_names.specs.declared.reference.Reference.{Reference}
use Rattle.depot_api.specs.Blobs.{Rest}
use Rattle.reg_entries.specs.Numbers.{blob_unknown, manifest_unknown}
use Rattle.reg_entries.specs.declared.ask.Ask.{Ask}
use Rattle.reg_entries.specs.declared.reply.Reply.{Reply}
use Rattle.reg_model.specs.Facts.{Facts}
use Rattle.reg_model.specs.Answers.{lacking, Answer, plain, SendsBy}
use Rattle.reg_model.specs.Blobs.{GivesBlob}
use Rattle.reg_model.specs.Fits.{IsLacking, FitsBlob, FitsManifest}

-- no bytes follow a refusal
pub lacking_sends : (facts : Facts) (ask : Ask) (known : Bool) (number : ℕ) → SendsBy facts ask [] (lacking known number)
lacking_sends facts ask true number = refl
lacking_sends facts ask false number = refl

-- what a reply says of a refusal, it says of one for what is lacked
pub of_lacking : (number : ℕ) (reply : Reply) (Says : Reply → Type 0) → ((known : Bool) → Says (lacking known number)) → IsLacking number reply → Says reply
of_lacking number reply Says says h = subst Says (sym h.1) (says h.0)

pub manifest_fits : (at : Option Reference) (known : Bool) → FitsManifest at (lacking known manifest_unknown)
manifest_fits at true = (true, refl)
manifest_fits at false = (false, refl)

pub blob_fits : (digest : List ℕ) (known : Bool) → FitsBlob digest [] (lacking known blob_unknown)
blob_fits digest true = ((true, refl), refl)
blob_fits digest false = ((false, refl), refl)

-- a reply that comes without a blob is all of the answer
pub alone : {B : Type 0} (rest : B → Rest) (reply : Reply) (Says : Answer → Type 0) → Says (plain reply) → (answer : Answer) → GivesBlob rest (reply, None) answer → Says answer
alone rest reply Says says answer h = subst Says (sym (λ i. record { reply = h.reply i; content = h.content i })) says
