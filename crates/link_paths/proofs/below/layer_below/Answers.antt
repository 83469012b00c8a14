use Rattle.reg_names.specs.Digests.{IsDigest}
use Rattle.link_paths.specs.Places.{layer_path}
use Rattle.link_paths.specs.Folders.{digest_link, layers_folder}
use Rattle.link_paths.proofs.FolderPlaces.{layer_begins}
use Rattle.link_paths.proofs.LinksBelow.{read_below, none_below}
use Rattle.link_paths.proofs.below.layer_below.Goals as goal

pub returns-in-Some : goal.returns-in-Some
returns-in-Some c = read_below layers_folder IsDigest layer_path digest_link layer_begins c.args.folder.now c.args.path.now c.in-Some.parts.now c.read_digest_link.result c.in-Some.ensures c.read_digest_link.ensures

pub returns-in-None : goal.returns-in-None
returns-in-None c = none_below layers_folder IsDigest layer_path digest_link layer_begins c.args.folder.now c.args.path.now c.in-None.ensures
