use Rattle.link_reading.proofs.MeaningLaws.{spared_link, spared_manifest, spared_target}
use Rattle.link_reading.proofs.laws.data_files_speak_of_their_digest.Goals as goal

pub returns-clause-links : goal.returns-clause-links
returns-clause-links c = λ files digest file name other d. spared_link files digest file d name other

pub returns-clause-manifests : goal.returns-clause-manifests
returns-clause-manifests c = λ files digest file name other d. spared_manifest files digest file d name other

pub returns-clause-tags : goal.returns-clause-tags
returns-clause-tags c = λ files digest file name tag other d. spared_target files digest file d name tag other
