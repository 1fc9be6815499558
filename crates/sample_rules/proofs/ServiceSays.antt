-- What the service of every sample says.
use Rattle.std.proofs.Common.{◌≡◌, ◌∷◌, [], Some, None, Ok, refl}
use Rattle.csv.proofs.OnLiterals.{csv_on_literals}
use Rattle.csv.specs.Records.{field_at}
use Rattle.line_file.specs.Rows.{rows_of}
use Rattle.line_file.specs.RowFile.{rows_fault}
use Rattle.line_file.specs.ServiceText.{service_of}
use Rattle.line_file.specs.declared.service.Service.{Service}
use Rattle.sample_lines.specs.Texts.{service_text}

abbrev pub sample_service : Service
sample_service = record {
  calls =
      record { place = 0; dwell = None; latest = None }
      ∷ record { place = 10000; dwell = Some 30; latest = None }
      ∷ record { place = 20000; dwell = Some 30; latest = None }
      ∷ record { place = 30000; dwell = Some 30; latest = None }
      ∷ record { place = 40000; dwell = None; latest = Some 3600 }
      ∷ [];
}

pub service-says : service_of service_text ≡ Ok sample_service
unfolding csv_on_literals rows_of rows_fault field_at
service-says = refl
