-- Which fault a call that judges bytes may answer.
use Rattle.std.specs.Prelude.{◌≡◌, Result, Err, ⊤}
use Rattle.manifest_doc.specs.declared.fault.DocFault.{DocFault}
use Rattle.manifest_doc.specs.declared.fault.DocFault.TheVariants.{NotJson, NoKind, BadDescriptor, TooMany, NoMemory}

-- the fault is the one that is due, or memory was wanting
abbrev pub IsDue : {X : Type 0} → Result X DocFault → DocFault → Type 0
IsDue due NotJson = due ≡ Err NotJson
IsDue due NoKind = due ≡ Err NoKind
IsDue due BadDescriptor = due ≡ Err BadDescriptor
IsDue due TooMany = due ≡ Err TooMany
IsDue due NoMemory = ⊤
