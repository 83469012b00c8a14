use Rattle.reg_names.specs.Tags.{IsTag}
use Rattle.link_paths.specs.Places.{tag_path}
use Rattle.link_paths.specs.Folders.{current_link, tags_folder}
use Rattle.link_paths.proofs.FolderPlaces.{tag_begins}
use Rattle.link_paths.proofs.LinksBelow.{read_below, none_below}
use Rattle.link_paths.proofs.below.tag_below.Goals as goal

pub returns-in-Some : goal.returns-in-Some
returns-in-Some c = read_below tags_folder IsTag tag_path current_link tag_begins c.args.folder.now c.args.path.now c.in-Some.parts.now c.read_current_link.result c.in-Some.ensures c.read_current_link.ensures

pub returns-in-None : goal.returns-in-None
returns-in-None c = none_below tags_folder IsTag tag_path current_link tag_begins c.args.folder.now c.args.path.now c.in-None.ensures
