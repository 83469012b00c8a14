use Rattle.std.proofs.Common.{◌≡◌, rules, refl}
use Rattle.upload_sessions.proofs.SealingLaws.{same_sealed}
use Rattle.upload_sessions.proofs.sealed.place_sealed.Goals as goal

pub returns-in-Err-NoMemory-clause-back : goal.returns-in-Err-NoMemory-clause-back
returns-in-Err-NoMemory-clause-back g c =
    let same : c.in-Err-NoMemory.stage ≡ c.args.sealed.stage = search rules in
    same_sealed _ _ same refl refl
