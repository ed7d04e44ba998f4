-- A writer of records. No public clause speaks of these.
use Rattle.std.specs.Prelude.{◌≡◌, false, true}
use Rattle.csv.specs.Writing.{default_writer, fields_written, has_written, with_flexible, writer_setup}
use Rattle.csv.specs.declared.writer.Writer.{Writer}

-- it writes records of any length, as the format has them, and is between two of them
pub record IsBetween {W : Type 0} (rows : Writer W) : Type 0 where
  pub setup : writer_setup rows ≡ with_flexible default_writer true
  pub no_field : fields_written rows ≡ 0
  pub no_byte : has_written rows ≡ false
