-- What the reader's values say, with the image as a list of bytes.
use Rattle.std.specs.Prelude.{Ok, Err, Result}
use Rattle.benchfile.specs.declared.file.BenchFile.{BenchFile}
use Rattle.benchfile.specs.declared.reader.Fields.{Fields}
use Rattle.benchfile.specs.declared.refusals.Refusal.{Refusal}
use Rattle.benchfile.specs.Format.{Contents, Layout}

-- what an answer of the reader says
abbrev pub file_read : Result BenchFile Refusal → Result Contents Refusal
file_read (Ok f) = Ok (record { start = f.start; base = f.base; limit = f.limit; image = f.image.now })
file_read (Err refusal) = Err refusal

-- what the fields that it took apart say
abbrev pub fields_in : Fields → Layout
fields_in f = record {
  version = f.version;
  reserved = f.reserved;
  start = f.start;
  base = f.base;
  size = f.length;
  limit = f.limit;
  image = f.image.now;
}

abbrev pub fields_read : Result Fields Refusal → Result Layout Refusal
fields_read (Ok f) = Ok (fields_in f)
fields_read (Err refusal) = Err refusal
