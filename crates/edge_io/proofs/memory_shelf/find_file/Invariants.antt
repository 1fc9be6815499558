use Rattle.std.proofs.Common.{◌≡◌, drop}
use Rattle.edge_io.specs.Memory.{file_of}
use Rattle.edge_io.specs.Named.{named}
use Rattle.edge_io.proofs.memory_shelf.find_file.Given as goal

abbrev pub invariant-loop-file : goal.invariant-loop-file
invariant-loop-file l = file_of (named l.files) l.name ≡ file_of (named (drop l.file-index l.files)) l.name
