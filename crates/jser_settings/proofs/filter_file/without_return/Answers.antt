use Rattle.jser_settings.proofs.FilterFileLemmas.{suffix_dropped}
use Rattle.jser_settings.proofs.filter_file.without_return.Goals as goal

pub returns-in-Some : goal.returns-in-Some
returns-in-Some c = suffix_dropped c.args.line.now c.strip_suffix.result c.in-Some.front c.in-Some.is c.strip_suffix.ensures.cases
