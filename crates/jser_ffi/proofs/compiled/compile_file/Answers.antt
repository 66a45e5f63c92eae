use Rattle.jser_ffi.proofs.CompileLemmas.{file_misuse}
use Rattle.jser_ffi.proofs.compiled.compile_file.Goals as goal

pub returns-in-Ok-clause-misuse : goal.returns-in-Ok-clause-misuse
returns-in-Ok-clause-misuse c =
    file_misuse c.args.flags c.args.file.now _ _ c.args.modules.now c.in-Err.answer c.in-Ok.ensures.text c.as_bytes.ensures.value c.in-Err.ensures.misuse
