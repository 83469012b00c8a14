-- What a registry is, as its link files tell it.
use Rattle.std.specs.Prelude.{None}
use Rattle.depot_api.specs.Holdings.{Holding}
use Rattle.link_paths.specs.Places.{upload_data_path}
use Rattle.link_reading.specs.Meaning.{Means, data_at}
use Rattle.reg_model.specs.Facts.{Facts, by_files}
use Rattle.reg_model.specs.Uploads.{upload_at}

-- what an answer from link files depends on: what the files mean, and the data files
abbrev pub facts_of : Holding → Facts
facts_of held =
    record {
      phase = by_files;
      state = Means held.files;
      condemned = λ digest. None;
      uploads = upload_at held.files;
      busy = λ name id. held.lent (upload_data_path name id);
      manifests = λ name digest. data_at held.files digest;
      blobs = data_at held.files;
    }
