use Rattle.link_paths.proofs.FolderPlaces.{tag_begins, tag_index_begins, revision_begins, layer_begins, upload_data_begins, upload_started_begins}
use Rattle.link_paths.proofs.laws.places_begin_with_folders.Goals as goal

pub returns-clause-tag : goal.returns-clause-tag
returns-clause-tag c = tag_begins

pub returns-clause-tag_index : goal.returns-clause-tag_index
returns-clause-tag_index c = tag_index_begins

pub returns-clause-revision : goal.returns-clause-revision
returns-clause-revision c = revision_begins

pub returns-clause-layer : goal.returns-clause-layer
returns-clause-layer c = layer_begins

pub returns-clause-upload_data : goal.returns-clause-upload_data
returns-clause-upload_data c = upload_data_begins

pub returns-clause-upload_started : goal.returns-clause-upload_started
returns-clause-upload_started c = upload_started_begins
