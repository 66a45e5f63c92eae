-- What a command line asks for.
use Rattle.std.specs.Prelude.{Bool, true, false}
use Rattle.jser_filter.specs.Filters.{FilterView}
use Rattle.jser_commands.specs.declared.job.Job.{Job}
use Rattle.jser_commands.specs.declared.job.Job.TheVariants as job

-- the list, with names at any place or without
abbrev pub list_of : (anywhere : Bool) → FilterView → Job
list_of false filter = job.List filter
list_of true filter = job.ListAnywhere filter
