use Rattle.std.proofs.Common.{◌≡◌, true, map, take}
use Rattle.std.specs.List.{list_all}
use Rattle.serde_json.specs.View.{view}
use Rattle.manifest_doc.specs.Descriptors.{is_descriptor, descriptors}
use Rattle.manifest_doc.proofs.descriptors.read_all.Given as goal

-- the values so far are all descriptors, and were kept
abbrev pub invariant-loop-value : goal.invariant-loop-value
invariant-loop-value l = (list_all is_descriptor (take l.value-index (map view l.fn.values)) ≡ true) × (l.found.items ≡ descriptors (take l.value-index (map view l.fn.values)))
