use Rattle.reg_routes.proofs.RouteLaws.{base, tags, manifests, uploads, upload, blobs}
use Rattle.reg_routes.proofs.OnlyLaws.{only}
use Rattle.reg_routes.proofs.laws.paths_lead_to_routes.Goals as goal

pub returns-clause-base : goal.returns-clause-base
returns-clause-base c = base

pub returns-clause-tags : goal.returns-clause-tags
returns-clause-tags c = tags

pub returns-clause-manifests : goal.returns-clause-manifests
returns-clause-manifests c = manifests

pub returns-clause-uploads : goal.returns-clause-uploads
returns-clause-uploads c = uploads

pub returns-clause-upload : goal.returns-clause-upload
returns-clause-upload c = upload

pub returns-clause-blobs : goal.returns-clause-blobs
returns-clause-blobs c = blobs

pub returns-clause-only : goal.returns-clause-only
returns-clause-only c = only
