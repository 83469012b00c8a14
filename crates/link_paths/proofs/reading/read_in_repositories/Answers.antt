use Rattle.std.proofs.Common.{Some, None}
use Rattle.reg_names.specs.Names.{IsName}
use Rattle.depot_api.specs.Paths.{parts_of}
use Rattle.reg_names.specs.Reading.{ReadsBack}
use Rattle.link_paths.proofs.ReadPlaces.{inside_read, no_name}
use Rattle.link_paths.proofs.reading.read_in_repositories.Goals as goal

pub returns-in-Some-2 : goal.returns-in-Some-2
returns-in-Some-2 c =
    let read : ReadsBack IsName parts_of c.in-Some.name.now (Some c.in-Some-2.name) = rw c.in-Some-2.is at c.in_ok-name.ensures in
    inside_read c.args.parts.now c.in-Some.name.now c.in-Some.parts.now c.in-Some-2.name c.read_inside.result c.in-Some.ensures read.1 c.read_inside.ensures

pub returns-in-None : goal.returns-in-None
returns-in-None c =
    let none : ReadsBack IsName parts_of c.in-Some.name.now None = rw c.in-None.is at c.in_ok-name.ensures in
    no_name c.args.parts.now c.in-Some.name.now c.in-Some.parts.now c.in-Some.ensures none
