-- The proof's own: no public clause cites what stands here.
-- What is read of an object by its parts.
use Rattle.std.specs.Prelude.{Bool, if◌then◌else◌, Option, Some, None, Result, Ok, Err, ⊤}
use Rattle.std.specs.Option.{option_map_or}
use Rattle.serde_json.specs.Data.{Data}
use Rattle.manifest_doc.specs.Descriptors.{described}
use Rattle.manifest_doc.specs.declared.descriptors.Descriptor.{Descriptor}
use Rattle.manifest_doc.specs.declared.fault.DocFault.{DocFault}
use Rattle.manifest_doc.specs.declared.fault.DocFault.TheVariants.{BadDescriptor}

-- the configuration's descriptor, where there is a configuration
abbrev pub config_read : Option Data → Result (Option Descriptor) DocFault
config_read None = Ok None
config_read (Some d) = option_map_or (λ e. Ok (Some e)) (described d) (Err BadDescriptor)

-- BadDescriptor, where this does not hold
abbrev pub bad_unless : Bool → Result ⊤ DocFault
bad_unless holds = if holds then Ok tt else Err BadDescriptor
