use Rattle.link_paths.proofs.FolderPlaces.{below_manifests, below_layers, below_uploads, below_tags, below_revisions}
use Rattle.link_paths.proofs.laws.folders_are_apart.Goals as goal

pub returns-clause-manifests : goal.returns-clause-manifests
returns-clause-manifests c = below_manifests

pub returns-clause-layers : goal.returns-clause-layers
returns-clause-layers c = below_layers

pub returns-clause-uploads : goal.returns-clause-uploads
returns-clause-uploads c = below_uploads

pub returns-clause-tags : goal.returns-clause-tags
returns-clause-tags c = below_tags

pub returns-clause-revisions : goal.returns-clause-revisions
returns-clause-revisions c = below_revisions
