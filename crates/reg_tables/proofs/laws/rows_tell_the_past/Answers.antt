use Rattle.reg_tables.specs.Items.{manifest_at, tag_at, named_at, child_at, link_at, blob_at}
use Rattle.reg_tables.specs.Keys.{manifest_key, tag_key, named_key, child_key, link_key, blob_key}
use Rattle.reg_tables.proofs.DerivedLaws.{told, told_last}
use Rattle.reg_tables.proofs.ItemLaws.{spot_own, pair_own, tag_key_own, digest_own}
use Rattle.reg_tables.proofs.laws.rows_tell_the_past.Goals as goal

pub returns-clause-last : goal.returns-clause-last
returns-clause-last c = told_last

pub returns-clause-manifests : goal.returns-clause-manifests
returns-clause-manifests c journal rows name digest derived is digest_is =
    told journal rows (manifest_key name digest) (manifest_at name digest) derived (spot_own manifest_at name digest is digest_is)

pub returns-clause-tags : goal.returns-clause-tags
returns-clause-tags c journal rows name tag derived is tag_is =
    told journal rows (tag_key name tag) (tag_at name tag) derived (tag_key_own name tag is tag_is)

pub returns-clause-named : goal.returns-clause-named
returns-clause-named c journal rows name manifest digest derived is manifest_is digest_is =
    told journal rows (named_key name manifest digest) (named_at name manifest digest) derived (pair_own named_at name manifest digest is manifest_is digest_is)

pub returns-clause-children : goal.returns-clause-children
returns-clause-children c journal rows name parent child derived is parent_is child_is =
    told journal rows (child_key name parent child) (child_at name parent child) derived (pair_own child_at name parent child is parent_is child_is)

pub returns-clause-links : goal.returns-clause-links
returns-clause-links c journal rows name digest derived is digest_is =
    told journal rows (link_key name digest) (link_at name digest) derived (spot_own link_at name digest is digest_is)

pub returns-clause-blobs : goal.returns-clause-blobs
returns-clause-blobs c journal rows digest derived is =
    told journal rows (blob_key digest) (blob_at digest) derived (digest_own blob_at digest is)
