use Rattle.reg_names.specs.Digests.{IsDigest}
use Rattle.link_paths.specs.Places.{revision_path}
use Rattle.link_paths.specs.Folders.{digest_link, revisions_folder}
use Rattle.link_paths.proofs.FolderPlaces.{revision_begins}
use Rattle.link_paths.proofs.LinksBelow.{read_below, none_below}
use Rattle.link_paths.proofs.below.revision_below.Goals as goal

pub returns-in-Some : goal.returns-in-Some
returns-in-Some c = read_below revisions_folder IsDigest revision_path digest_link revision_begins c.args.folder.now c.args.path.now c.in-Some.parts.now c.read_digest_link.result c.in-Some.ensures c.read_digest_link.ensures

pub returns-in-None : goal.returns-in-None
returns-in-None c = none_below revisions_folder IsDigest revision_path digest_link revision_begins c.args.folder.now c.args.path.now c.in-None.ensures
