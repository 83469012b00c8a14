-- What a sink took of a text, and of a blob.
use Rattle.std.specs.Prelude.{◌≡◌, ◌≢◌, ℕ, ◌⊎◌, List, [], ◌++◌, Option}
use Rattle.std.specs.Io.KnownBytes.{Appends}
use Rattle.depot_api.specs.Blobs.{Rest}
use Rattle.reg_model.specs.Blobs.{HasLeft}
use Rattle.reg_replies.specs.Writing.{TookFront}
use Rattle.reg_session.specs.declared.sending.Sent.{Sent}
use Rattle.reg_session.specs.declared.sending.Sent.TheVariants.{Whole, BlobFault, SinkFault}

-- all of a text was taken, or, where the sink failed, a front of it
abbrev pub Tries : Type 0 → Option (List ℕ) → Option (List ℕ) → List ℕ → Type 0
Tries failed old new text = Appends old new text ⊎ (failed × TookFront old new text)

-- the front of a text and a front of what follows it, but not all of that
pub record BreaksOff (old new : Option (List ℕ)) (head body : List ℕ) : Type 0 where
  pub front : List ℕ
  pub rest : List ℕ
  pub split : body ≡ front ++ rest
  pub more : rest ≢ []
  pub took : Appends old new (head ++ front)

-- a head and all of the body were taken; or not all of the body, where the blob failed; or a front, where the sink did
abbrev pub Sends : Option (List ℕ) → Option (List ℕ) → List ℕ → List ℕ → Sent → Type 0
Sends old new head body Whole = Appends old new (head ++ body)
Sends old new head body BlobFault = BreaksOff old new head body
Sends old new head body SinkFault = TookFront old new (head ++ body)

-- a head, and behind it what is left of a blob, were sent as far as blob and sink went, whatever bytes the blob gives
-- that does not tell them
pub record SendsBlob (rest : Rest) (head : List ℕ) (old new : Option (List ℕ)) (sent : Sent) : Type 0 where
  pub body : List ℕ
  pub of_blob : HasLeft rest body
  pub sends : Sends old new head body sent
