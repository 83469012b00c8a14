-- How the session of an upload is spent once the body is all there.
use Rattle.std.proofs.Common.{◌≡◌, ◌≢◌, ◌⊎◌, ℕ, ◌<◌, Bool, true, false, List, [], ◌∷◌, ◌++◌, length, Option, Some, None, Result, Ok, Err, MatchResult, refl, sym, ap, subst, ◌∙◌, arith, inl, inr}
use Rattle.std.specs.Prelude.{IsTrue, is_some, nat_eq, not}
use Rattle.std.specs.Cmp.Lexicographic.{pointwise, bytes_decides}
use Rattle.std.proofs.lemmas.Bool.{true≢false}
use Rattle.std.proofs.lemmas.List.{take_all}
use Rattle.reg_names.specs.Digests.{digest_text}
use Rattle.reg_digest.specs.Hashing.{hashes_to}
use Rattle.depot_api.specs.Stages.{Staged}
use Rattle.depot_api.specs.declared.stage.Stage.{Ghosts}
use Rattle.files_service.specs.Finishing.{Ending, ending_of}
use Rattle.files_service.specs.Finishing as endings
use Rattle.reg_claims.specs.declared.claim.Held.{Held as Claim}
use Rattle.reg_entries.specs.Numbers as numbers
use Rattle.reg_entries.specs.declared.ask.Ask.{Ask}
use Rattle.reg_entries.specs.declared.reply.Reply.{Reply}
use Rattle.reg_entries.specs.declared.reply.Reply.TheVariants as replies
use Rattle.reg_entries.specs.declared.trouble.Trouble.{Trouble}
use Rattle.reg_model.specs.Answers.{plain, refusal}
use Rattle.reg_model.specs.Changing.{refusal_with}
use Rattle.upload_sessions.specs.declared.finish.Finish.{Finish}
use Rattle.upload_sessions.specs.declared.finish.Finish.TheVariants.{Done, Back, Failed}
use Rattle.upload_sessions.specs.declared.sealed.Sealed.{Sealed}
use Rattle.reg_world.specs.Worlds.{Data}
use Rattle.reg_world.specs.Moves.{shelves, finishes, releases, closes, came_to, ended, seen_of_end}
use Rattle.reg_session.specs.Answering.{trouble_reply}
use Rattle.reg_session.specs.Chains.{Hold}
use Rattle.reg_session.specs.Holds.{Held}
use Rattle.reg_session.specs.InnerUploads.{IsUpload, Completes, EndsFinish, IsBackOf, IsStill}
use Rattle.reg_session.specs.Uploads.{Gives, Stages, ClosesWith, FailsToStage, RepliesBack, AddsAll}
use Rattle.reg_session.proofs.ChainLaws.{hold_of, spends_one, spends_more}
use Rattle.reg_session.proofs.UploadLaws.{back_replies, finish_replies}

module _ (between : Data → Data → Type 0) (w v : Data) (ask : Ask) (digest : Option (List ℕ)) (body : List ℕ) (before after : Staged) (h : Hold) (claim : Claim)
    (upload : IsUpload ask digest) (gives : Gives ask h claim before) (stages : Stages before after body) where
  -- it is given back, and this is answered
  back_completes : (faults : ℕ) (reply : Reply) → Held between w (shelves claim after faults) ended v
      → FailsToStage before after faults body (plain reply) ⊎ AddsAll ask claim before after body (plain reply) → Completes between w v ask body h reply
  back_completes faults reply held so =
      let i = hold_of (shelves claim after faults) ended held in
      record {
        holds = i ∷ [];
        spends = spends_one between w v (shelves claim after faults) ended held (λ o words. refl);
        replies_so = back_replies ask digest body h i (plain reply) upload (record {
          held = claim;
          before = before;
          after = after;
          faults = faults;
          gives = gives;
          back = record { is = refl; seen = refl };
          so = so;
        });
      }

  pub added_completes : (faults : ℕ) (reply : Reply) → Held between w (shelves claim after faults) ended v
      → (reply ≡ refusal numbers.no_memory) ⊎ RepliesBack ask claim after reply → Completes between w v ask body h reply
  added_completes faults reply held so =
      back_completes faults reply held (inr (record { reply = reply; stages = stages; is = refl; so = so }))

  -- the stage failed as its bytes were hashed
  pub unsealed_completes : (faults : ℕ) (reply : Reply) → Held between w (shelves claim after faults) ended v → 0 < faults → reply ≡ refusal numbers.storage_fault
      → Completes between w v ask body h reply
  unsealed_completes faults reply held some is =
      back_completes faults reply held (inl (record {
        rose = some;
        some = record {
          path = stages.path;
          tells = stages.tells;
          grew = let counts = stages.gains.0 in omega (arith, counts);
          room = let counts = stages.gains.0 in let fits = stages.room in omega (arith, counts, fits);
          some = λ told. (length body, stages.gains.1 told ∙ ap (λ (b : List ℕ). before.bytes ++ b) (sym (take_all (length body) body (omega arith))));
        };
        is = ap plain is;
      }))

-- how many bytes there are is answered
pub patched_back : (ask : Ask) (claim : Claim) (after : Staged) (offset : ℕ) (reply : Reply) → IsUpload ask None → offset ≡ after.count
    → (reply ≡ refusal numbers.no_memory) ⊎ (reply ≡ replies.Patched claim.name claim.id offset) → (reply ≡ refusal numbers.no_memory) ⊎ RepliesBack ask claim after reply
patched_back ask claim after offset reply upload same (inl is) = inl is
patched_back ask claim after offset reply (name, id, start, asked) same (inr is) =
    inr (subst (λ (a : Ask). RepliesBack a claim after reply) (sym asked) (is ∙ ap (λ (n : ℕ). replies.Patched claim.name claim.id n) same))

-- the digest of what is there is answered, where it is another
pub differs_back : (ask : Ask) (digest found : List ℕ) (claim : Claim) (after : Staged) (reply : Reply) → IsUpload ask (Some digest) → found ≢ digest
    → (IsTrue after.tells → IsTrue (hashes_to found after.bytes)) → (reply ≡ refusal numbers.no_memory) ⊎ (reply ≡ refusal_with numbers.digest_differs (digest_text found))
    → (reply ≡ refusal numbers.no_memory) ⊎ RepliesBack ask claim after reply
differs_back ask digest found claim after reply upload other hashes (inl is) = inl is
differs_back ask digest found claim after reply (name, id, start, asked) other hashes (inr is) =
    inr (subst (λ (a : Ask). RepliesBack a claim after reply) (sym asked) (record { found = found; other = other; hashes = hashes; is = is }))

-- ---- finishes

-- the upload was finished, and its session spent
pub finished_completes : (between : Data → Data → Type 0) (w m v : Data) (ask : Ask) (digest body : List ℕ) (before after : Staged) (h : Hold) (claim : Claim) (ending : Ending) (reply : Reply)
    → IsUpload ask (Some digest) → Gives ask h claim before → Stages before after body → (IsTrue after.tells → IsTrue (hashes_to digest after.bytes))
    → Held between w (finishes claim after digest) (came_to ending) m → EndsFinish between m v claim after ending reply → Completes between w v ask body h reply
finished_completes between w m v ask digest body before after h claim ending reply upload gives stages hashes held spent =
    let i = hold_of (finishes claim after digest) (came_to ending) held in
    record {
      holds = i ∷ spent.hold ∷ [];
      spends = spends_more between w m v (finishes claim after digest) (came_to ending) (spent.hold ∷ []) held (λ o words. refl) spent.spends;
      replies_so = finish_replies ask digest body h i spent.hold (plain reply) upload (record {
        held = claim;
        before = before;
        after = after;
        ending = ending;
        gives = gives;
        stages = stages;
        hashes = hashes;
        finish = refl;
        seen = refl;
        ends = spent.ends;
      });
    }

closed_as : (reply answer : Reply) (result : Result (Unit {0}) Trouble) → MatchResult result (λ done. answer ≡ reply) (λ trouble. answer ≡ trouble_reply trouble)
    → ClosesWith reply (seen_of_end result) (plain answer)
closed_as reply answer (Ok done) is = ap plain is
closed_as reply answer (Err trouble) is = ap plain is

module _ (between : Data → Data → Type 0) (w v : Data) (claim : Claim) (after : Staged) where
  -- its session was closed
  pub closed_ends : (reply answer : Reply) (result : Result (Unit {0}) Trouble) → Held between w (closes claim) (seen_of_end result) v
      → MatchResult result (λ done. answer ≡ reply) (λ trouble. answer ≡ trouble_reply trouble) → EndsFinish between w v claim after (endings.done reply) answer
  closed_ends reply answer result held is = record {
    hold = hold_of (closes claim) (seen_of_end result) held;
    spends = spends_one between w v (closes claim) (seen_of_end result) held (λ o words. refl);
    ends = (refl, closed_as reply answer result is);
  }

  -- it was given back
  pub refused_ends : (faults : ℕ) (reply : Reply) → Held between w (shelves claim after faults) ended v → EndsFinish between w v claim after (endings.refused reply) reply
  refused_ends faults reply held = record {
    hold = hold_of (shelves claim after faults) ended held;
    spends = spends_one between w v (shelves claim after faults) ended held (λ o words. refl);
    ends = (faults, record { is = refl; seen = refl }, refl);
  }

  pub failed_ends : (faults : ℕ) (trouble : Trouble) (reply : Reply) → Held between w (shelves claim after faults) ended v → reply ≡ trouble_reply trouble
      → EndsFinish between w v claim after (endings.failed true trouble) reply
  failed_ends faults trouble reply held is = record {
    hold = hold_of (shelves claim after faults) ended held;
    spends = spends_one between w v (shelves claim after faults) ended held (λ o words. refl);
    ends = (faults, record { is = refl; seen = refl }, ap plain is);
  }

  -- its claim was ended, since its bytes are gone
  pub released_ends : (trouble : Trouble) (reply : Reply) → Held between w (releases claim) ended v → reply ≡ trouble_reply trouble
      → EndsFinish between w v claim after (endings.failed false trouble) reply
  released_ends trouble reply held is = record {
    hold = hold_of (releases claim) ended held;
    spends = spends_one between w v (releases claim) ended held (λ o words. refl);
    ends = (refl, refl, ap plain is);
  }

-- ---- comparisons of digests

pub same_digest : (found digest : List ℕ) → false ≡ not (pointwise nat_eq found digest) → found ≡ digest
same_digest found digest told = (bytes_decides found digest).0 (by (pointwise nat_eq found digest) told)
  where
    by : (b : Bool) → false ≡ not b → b ≡ true
    by true t = refl
    by false t = absurd (true≢false (sym t))

pub other_digest : (found digest : List ℕ) → true ≡ not (pointwise nat_eq found digest) → found ≢ digest
other_digest found digest told is = true≢false (told ∙ ap not ((bytes_decides found digest).1 is))

-- ---- by what came back of a finish

module _ {S : Type 0} {g : Ghosts S} (staged : S → Staged) (between : Data → Data → Type 0) (w v : Data) (claim : Claim) (after : Staged) (finished : Finish S g)
    (back : IsBackOf staged claim after finished) where
  pub end_by_done : (held : Claim) (reply answer : Reply) → finished ≡ Done held reply → EndsFinish between w v held after (endings.done reply) answer
      → EndsFinish between w v claim after (ending_of finished) answer
  end_by_done held reply answer is ends =
      subst (λ (f : Finish S g). EndsFinish between w v claim after (ending_of f) answer) (sym is)
      (subst (λ (c : Claim). EndsFinish between w v c after (endings.done reply) answer) (subst (λ (f : Finish S g). IsBackOf staged claim after f) is back) ends)

  pub end_by_back : (held : Claim) (sealed : Sealed S g) (reply answer : Reply) (stage : S) → finished ≡ Back held sealed reply → stage ≡ sealed.stage
      → EndsFinish between w v held (staged stage) (endings.refused reply) answer → EndsFinish between w v claim after (ending_of finished) answer
  end_by_back held sealed reply answer stage is same ends =
      let came : (held ≡ claim) × (staged sealed.stage ≡ after) = subst (λ (f : Finish S g). IsBackOf staged claim after f) is back in
      subst (λ (f : Finish S g). EndsFinish between w v claim after (ending_of f) answer) (sym is)
      (subst (λ (c : Claim). EndsFinish between w v c after (endings.refused reply) answer) came.0
      (subst (λ (s : Staged). EndsFinish between w v held s (endings.refused reply) answer) (ap staged same ∙ came.1) ends))

  pub end_by_failed : (held : Claim) (sealed : Option (Sealed S g)) (trouble : Trouble) (answer : Reply) → finished ≡ Failed held sealed trouble
      → (IsStill staged after sealed → EndsFinish between w v held after (endings.failed (is_some sealed) trouble) answer) → EndsFinish between w v claim after (ending_of finished) answer
  end_by_failed held sealed trouble answer is ends =
      let came : (held ≡ claim) × IsStill staged after sealed = subst (λ (f : Finish S g). IsBackOf staged claim after f) is back in
      subst (λ (f : Finish S g). EndsFinish between w v claim after (ending_of f) answer) (sym is)
      (subst (λ (c : Claim). EndsFinish between w v c after (endings.failed (is_some sealed) trouble) answer) came.0 (ends came.1))

module _ {S : Type 0} {g : Ghosts S} (staged : S → Staged) (between : Data → Data → Type 0) (w v : Data) (claim : Claim) (after : Staged) (trouble : Trouble) (answer : Reply)
    (sealed : Option (Sealed S g)) (still : IsStill staged after sealed) where
  pub given_up : (inside : Sealed S g) (stage : S) → sealed ≡ Some inside → stage ≡ inside.stage → EndsFinish between w v claim (staged stage) (endings.failed true trouble) answer
      → EndsFinish between w v claim after (endings.failed (is_some sealed) trouble) answer
  given_up inside stage is same ends =
      let there : staged inside.stage ≡ after = subst (λ (o : Option (Sealed S g)). IsStill staged after o) is still in
      subst (λ (o : Option (Sealed S g)). EndsFinish between w v claim after (endings.failed (is_some o) trouble) answer) (sym is)
      (subst (λ (s : Staged). EndsFinish between w v claim s (endings.failed true trouble) answer) (ap staged same ∙ there) ends)

  pub let_go : sealed ≡ None → EndsFinish between w v claim after (endings.failed false trouble) answer → EndsFinish between w v claim after (endings.failed (is_some sealed) trouble) answer
  let_go is ends = subst (λ (o : Option (Sealed S g)). EndsFinish between w v claim after (endings.failed (is_some o) trouble) answer) (sym is) ends
