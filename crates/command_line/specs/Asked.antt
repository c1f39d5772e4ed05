-- The answer to a fault of the words.
use Rattle.std.specs.Prelude.{Bool, true, false}
use Rattle.clap.specs.declared.error.kind.ErrorKind.{ErrorKind}
use Rattle.clap.specs.declared.error.kind.ErrorKind.TheVariants.{DisplayHelp, DisplayVersion}
use Rattle.endings.specs.declared.stop.Status.{Status}
use Rattle.endings.specs.declared.stop.Status.TheVariants as status
use Rattle.command_line.specs.Words.{LineError, kind_of}
use Rattle.command_line.specs.declared.line.asked.LineError.TheVariants as line_error

-- help or the version
abbrev pub is_help : ErrorKind → Bool
is_help DisplayHelp = true
is_help DisplayVersion = true
is_help other = false

-- a request for help or the version, which is answered on standard output
abbrev pub is_request : LineError → Bool
is_request (line_error.Usage error) = is_help (kind_of error)
is_request line_error.NoMemory = false

-- the status of a fault of the command line
abbrev pub status_of_line : LineError → Status
status_of_line (line_error.Usage error) = status.Usage
status_of_line line_error.NoMemory = status.Memory
