-- Those that are taken are those that were given, and what the forms name matches them.
use Rattle.std.proofs.Common.{◌≡◌, rules}
use Rattle.region_mem.specs.Parameter.{parameters_of}
use Rattle.rvvbox_c.specs.Forms.{bytes_of, forms_of}
use Rattle.rvvbox_c.specs.Tries.{params_in}
use Rattle.rvvbox_c.proofs.TryLemmas.{args_match, taken_are}
use Rattle.rvvbox_c.proofs.tries.parameters.Goals as goal

pub returns-clause-value : goal.returns-clause-value
returns-clause-value c =
    let given : c.new.result ≡ parameters_of (params_in (forms_of c.args.forms.now)
    (bytes_of c.args.reads.now) (bytes_of c.args.puts.now)) = search rules in
    rw given (taken_are (forms_of c.args.forms.now)
    (bytes_of c.args.reads.now) (bytes_of c.args.puts.now))

pub returns-clause-matching : goal.returns-clause-matching
returns-clause-matching c =
    let given : c.new.result ≡ parameters_of (params_in (forms_of c.args.forms.now)
    (bytes_of c.args.reads.now) (bytes_of c.args.puts.now)) = search rules in
    rw given (args_match (forms_of c.args.forms.now)
    (bytes_of c.args.reads.now) (bytes_of c.args.puts.now))
