-- What is refused changes nothing.
use Rattle.std.proofs.Common.{◌≡◌, ℕ, Bool, true, false, if◌then◌else◌, List, [], Option, Some, None, Ok, refl, sym, ap, subst, ◌∙◌}
use Rattle.depot_api.specs.Holdings.{Holding}
use Rattle.manifest_doc.specs.declared.document.Doc.{Doc}
use Rattle.manifest_doc.specs.declared.pushed.Judged.{Judged}
use Rattle.manifest_doc.specs.declared.pushed.Judged.TheVariants.{Bad, Good}
use Rattle.manifest_doc.specs.declared.pushed.Pushed.{Pushed}
use Rattle.reg_names.specs.declared.reference.Reference.{Reference}
use Rattle.reg_names.specs.declared.reference.Reference.TheVariants.{Tag, Digest}
use Rattle.reg_entries.specs.State.{State}
use Rattle.reg_entries.specs.declared.reply.Reply.{Reply}
use Rattle.reg_entries.specs.declared.reply.Reply.TheVariants as replies
use Rattle.reg_entries.specs.declared.trouble.Trouble.{Trouble}
use Rattle.reg_model.specs.Changing.{Change, Outcome, Lacks, Starts, Pushes, PushesJudged, Drops, DropsBy, Unlinks, UnlinksBy, UntagsBy, start_outcome, stored_outcome, document_outcome, drop_outcome, is_other}
use Rattle.reg_model.specs.Facts.{Facts}
use Rattle.files_service.specs.Changing.{Serves, with_changes, files_of_all}
use Rattle.files_service.specs.Finishing as endings
use Rattle.upload_sessions.specs.Closing.{CancelsAt}
use Rattle.upload_sessions.specs.declared.taking.Taken.TheVariants as taken
use Rattle.reg_world.specs.Laws.{IsRefusal, Refuses}
use Rattle.reg_world.specs.Moves.{Act, answers, starts, pushes, drops, unlinks, locates, takes, shelves, cancels, finishes, releases, closes, Seen, replied, failed, gave, came_to, ended, ChangesBy, Move, Stays}
use Rattle.reg_world.specs.Worlds.{Data}

-- ---- outcomes

-- an outcome that refuses changes nothing
abbrev IsQuiet : Outcome → Type 0
IsQuiet outcome = IsRefusal outcome.reply → outcome.changes ≡ []

quiet_as : (one two : Outcome) → one ≡ two → IsQuiet two → IsQuiet one
quiet_as one two is quiet = subst IsQuiet (sym is) quiet

quiet_lack : (told : Type 0) (state : State) (name : List ℕ) (number : ℕ) (o : Outcome) → Lacks told state name number o → IsQuiet o
quiet_lack told state name number o (known, so, is) = quiet_as o _ is (λ _. refl)

quiet_start : (name id : List ℕ) (mount : Option (List ℕ × List ℕ)) (now : ℕ) (stands : Bool) (size : Option ℕ) → IsQuiet (start_outcome name id mount now stands size)
quiet_start name id mount now true size = λ _. refl
quiet_start name id (Some mount) now false (Some size) = λ x. absurd x
quiet_start name id (Some mount) now false None = λ x. absurd x
quiet_start name id None now false size = λ x. absurd x

quiet_starts : (name id : List ℕ) (mount : Option (List ℕ × List ℕ)) (now : ℕ) (told : Type 0) (facts : Facts) (o : Outcome) → Starts name id mount now told facts o → IsQuiet o
quiet_starts name id mount now told facts o h = quiet_as o _ h.is (quiet_start name id mount now h.stands h.size)

quiet_stored : (name : List ℕ) (at : Reference) (digest bytes : List ℕ) (doc : Doc) (missing : Option (List ℕ)) → IsQuiet (stored_outcome name at digest bytes doc missing)
quiet_stored name at digest bytes doc (Some missing) = λ _. refl
quiet_stored name at digest bytes doc None = λ x. absurd x

quiet_either : (c : Bool) (one two : Outcome) → IsQuiet one → IsQuiet two → IsQuiet (if c then one else two)
quiet_either true one two first second = first
quiet_either false one two first second = second

quiet_judged : (name : List ℕ) (at : Reference) (digest bytes : List ℕ) (judged : Judged) (told : Type 0) (facts : Facts) (o : Outcome)
    → PushesJudged name at digest bytes judged told facts o → IsQuiet o
quiet_judged name at digest bytes (Bad word) told facts o is = quiet_as o _ is (λ _. refl)
quiet_judged name at digest bytes (Good doc) told facts o h =
    quiet_as o _ h.is (quiet_either (is_other at digest) _ (stored_outcome name at digest bytes doc h.missing) (λ _. refl) (quiet_stored name at digest bytes doc h.missing))

quiet_pushes : (name : List ℕ) (at : Option Reference) (pushed : Pushed) (told : Type 0) (facts : Facts) (o : Outcome) → Pushes name at pushed told facts o → IsQuiet o
quiet_pushes name None pushed told facts o is = quiet_as o _ is (λ _. refl)
quiet_pushes name (Some at) pushed told facts o h = quiet_judged name at pushed.digest pushed.bytes pushed.judged told facts o h

quiet_unlinks : (told : Type 0) (state : State) (name digest : List ℕ) (linked : Bool) (o : Outcome) → UnlinksBy told state name digest linked o → IsQuiet o
quiet_unlinks told state name digest true o is = quiet_as o _ is (λ x. absurd x)
quiet_unlinks told state name digest false o h = quiet_lack told state name _ o h

quiet_untags : (told : Type 0) (state : State) (name tag : List ℕ) (stands : Bool) (o : Outcome) → UntagsBy told state name tag stands o → IsQuiet o
quiet_untags told state name tag true o is = quiet_as o _ is (λ x. absurd x)
quiet_untags told state name tag false o h = quiet_lack told state name _ o h

quiet_drop : (name digest : List ℕ) (lister : Option (List ℕ)) (tags : List (List ℕ)) → IsQuiet (drop_outcome name digest lister tags)
quiet_drop name digest (Some lister) tags = λ _. refl
quiet_drop name digest None tags = λ x. absurd x

quiet_manifest : (told : Type 0) (state : State) (name digest : List ℕ) (stands : Bool) (o : Outcome) → DropsBy told state name digest stands o → IsQuiet o
quiet_manifest told state name digest true o h = quiet_as o _ h.is (quiet_drop name digest h.lister h.tags)
quiet_manifest told state name digest false o h = quiet_lack told state name _ o h

quiet_drops : (name : List ℕ) (at : Option Reference) (told : Type 0) (facts : Facts) (o : Outcome) → Drops name at told facts o → IsQuiet o
quiet_drops name None told facts o h = quiet_lack told facts.state name _ o h
quiet_drops name (Some (Tag tag)) told facts o h = quiet_untags told facts.state name tag h.stands o h.is
quiet_drops name (Some (Digest digest)) told facts o h = quiet_manifest told facts.state name digest h.stands o h.is

-- ---- moves

changed_none : (Comes : Type 0 → Facts → Outcome → Type 0) (w v : Data) (seen : Seen) → ((told : Type 0) (facts : Facts) (o : Outcome) → Comes told facts o → IsQuiet o)
    → ChangesBy Comes w seen v → Refuses seen → Stays w v
changed_none Comes w v (replied answer) quiet (none, (o, comes, reply, made), claims) refused =
    let no_change = quiet _ _ o comes (subst IsRefusal reply refused) in
    record { held = made ∙ ap (λ changes. with_changes (files_of_all changes) w.held) no_change; claims = claims }
changed_none Comes w v (failed trouble) quiet move refused = absurd refused
changed_none Comes w v (gave given) quiet move refused = absurd move
changed_none Comes w v (came_to ending) quiet move refused = absurd move
changed_none Comes w v ended quiet move refused = absurd move

cancelled_none : (name : List ℕ) (id : Option (List ℕ)) (reply : Reply) (before now : Holding) → CancelsAt id name reply before now → IsRefusal reply → now ≡ before
cancelled_none name None reply before now is refused = is
cancelled_none name (Some id) (replies.Refused told) before now is refused = is
cancelled_none name (Some id) (replies.WrongStart other at offset) before now is refused = is
cancelled_none name (Some id) (replies.NotAllowed route) before now is refused = is
cancelled_none name (Some id) reply before now is refused = absurd refused

pub nothing_changed : (w v : Data) (act : Act) (seen : Seen) → Move w act seen v → Refuses seen → Stays w v
nothing_changed w v act (failed trouble) move refused = absurd refused
nothing_changed w v act ended move refused = absurd refused
nothing_changed w v act (gave (taken.Out held staged offset)) move refused = absurd refused
nothing_changed w v (takes who name id start) (gave (taken.Refused reply)) move refused = record { held = move.1; claims = move.2 }
nothing_changed w v act (gave (taken.Refused reply)) move refused = absurd move
nothing_changed w v act (came_to (endings.done reply)) move refused = absurd refused
nothing_changed w v act (came_to (endings.failed back trouble)) move refused = absurd refused
nothing_changed w v (finishes held staged digest) (came_to (endings.refused reply)) move refused = record { held = move.0.2; claims = move.1 }
nothing_changed w v act (came_to (endings.refused reply)) move refused = absurd move
nothing_changed w v (answers ask) (replied answer) move refused = move.1
nothing_changed w v (starts name mount id now) (replied answer) move refused =
    changed_none (Starts name id mount now) w v (replied answer) (quiet_starts name id mount now) move refused
nothing_changed w v (pushes name at pushed) (replied answer) move refused =
    changed_none (Pushes name at pushed) w v (replied answer) (quiet_pushes name at pushed) move refused
nothing_changed w v (drops name at) (replied answer) move refused = changed_none (Drops name at) w v (replied answer) (quiet_drops name at) move refused
nothing_changed w v (unlinks name digest) (replied answer) move refused =
    changed_none (Unlinks name digest) w v (replied answer) (λ told facts o h. quiet_unlinks told facts.state name digest h.linked o h.is) move refused
nothing_changed w v (locates name id) (replied answer) move refused = move.2
nothing_changed w v (cancels name id) (replied answer) move refused =
    record { held = cancelled_none name id answer.reply w.held v.held move.2 refused; claims = move.3 }
nothing_changed w v act (replied answer) move refused = absurd move
