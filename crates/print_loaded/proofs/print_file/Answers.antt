-- `print_loaded::print_file` is safe: what loading accepts is sound. Assumes nothing.
use Rattle.files.proofs.EngineLaws.{loaded-sound}
use Rattle.print_loaded.proofs.print_file.Goals as goal

pub print-requires : goal.print-requires
print-requires g c = c.requires _ _ (loaded-sound _ _ c.load-loaded.ensures c.in-Ok.is) c.lent.ensures.few
