-- What finishing an upload makes of link files.
use Rattle.std.proofs.Common.{◌≡◌, ℕ, Bool, true, false, List, Option, Some, None, refl, ap, ◌∙◌, inl, inr}
use Rattle.std.specs.Prelude.{IfSome}
use Rattle.depot_api.specs.Changes.{with_placed}
use Rattle.depot_api.specs.Holdings.{Holding}
use Rattle.depot_api.specs.Stages.{Staged}
use Rattle.depot_api.specs.declared.stage.Stage.{Ghosts}
use Rattle.link_paths.specs.Places.{data_path, layer_path}
use Rattle.reg_claims.specs.Claims.{ClaimList, claim_of, has}
use Rattle.reg_claims.specs.declared.claim.Held.{Held}
use Rattle.reg_entries.specs.declared.reply.Reply.{Reply}
use Rattle.reg_entries.specs.declared.reply.Reply.TheVariants as replies
use Rattle.reg_entries.specs.declared.trouble.Trouble.{Trouble}
use Rattle.reg_entries.specs.declared.trouble.Trouble.TheVariants as troubles
use Rattle.upload_sessions.specs.declared.sealed.Sealed.{Sealed}
use Rattle.upload_sessions.specs.declared.finish.Finish.TheVariants.{Failed}
use Rattle.files_service.specs.Changing.{puts_link, with_change}
use Rattle.files_service.specs.Finishing.{failed, done, HasFailedToEnd, EndsUpload, IsBack}
use Rattle.files_service.specs.InnerFinishing.{StopsAt}
use Rattle.files_service.specs.declared.finishing.Plan.{Plan}

pub told : (back : Bool) (trouble : Trouble) → HasFailedToEnd (failed back trouble) → trouble ≡ troubles.Depot
told back troubles.Depot h = refl
told back troubles.NoMemory h = absurd h
told back troubles.Keeper h = absurd h
told back troubles.Full h = absurd h

pub is_back : {S : Type 0} {g : Ghosts S} (held : Held) (sealed : Sealed S g) (back : Option (Sealed S g)) (trouble : Trouble) → IfSome back (λ b. b ≡ sealed) → IsBack held sealed (Failed held back trouble)
is_back held sealed (Some same) trouble h = (refl, h)
is_back held sealed None trouble h = refl

module _ (claims : ClaimList) (held : Held) (staged : Staged) (digest : List ℕ) (plan : Plan) (at : plan.data ≡ data_path digest) (link : plan.link ≡ puts_link (layer_path held.name digest) digest) (before now : Holding) where
  linked : now ≡ with_change plan.link (with_placed before staged plan.data) → now ≡ with_change (puts_link (layer_path held.name digest) digest) (with_placed before staged (data_path digest))
  linked h = h ∙ (λ i. with_change (link i) (with_placed before staged (at i)))

  pub ends_done : (reply : Reply) → has (claim_of held) claims ≡ true → reply ≡ replies.Finished held.name digest → now ≡ with_change plan.link (with_placed before staged plan.data) → EndsUpload claims held staged digest (done reply) before now
  ends_done reply stands same h = (stands, same, linked h)

  pub ends_failed : (back : Bool) (trouble : Trouble) → StopsAt plan staged back trouble before now → EndsUpload claims held staged digest (failed back trouble) before now
  ends_failed true trouble h = h
  ends_failed false troubles.Depot (inl shelved) = inl shelved
  ends_failed false troubles.Depot (inr (inl placed)) = inr (inl (placed ∙ ap (with_placed before staged) at))
  ends_failed false troubles.Depot (inr (inr made)) = inr (inr (linked made))
  ends_failed false troubles.NoMemory h = h ∙ ap (with_placed before staged) at
  ends_failed false troubles.Keeper h = absurd h
  ends_failed false troubles.Full h = absurd h
