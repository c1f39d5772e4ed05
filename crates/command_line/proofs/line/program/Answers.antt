use Rattle.std.proofs.Common.{◌≡◌}
use Rattle.clap.specs.Words.{App, app_of, with_subcommand}
use Rattle.command_line.specs.Line.{bare_app, check_shape, make_shape, mon_shape, run_shape, try_shape}
use Rattle.command_line.proofs.LineLemmas.{if_with, with_more}
use Rattle.command_line.proofs.line.program.Goals as goal

pub returns : goal.returns
returns c =
    let checks : App = with_subcommand bare_app check_shape in
    let runs : App = with_subcommand checks run_shape in
    let tries : App = with_subcommand runs try_shape in
    let watches : App = with_subcommand tries mon_shape in
    let checking : app_of c.in_ok-checking.checking ≡ checks =
    with_more _ bare_app _ check_shape _ c.in_ok-checking.ensures c.bare_command.ensures c.check_command.ensures.shape in
    let running : app_of c.in_ok-running.running ≡ runs =
    with_more _ checks _ run_shape _ c.in_ok-running.ensures checking c.told_command.ensures.shape in
    let trying : app_of c.in_ok-trying.trying ≡ tries = with_more _ runs _ try_shape _ c.in_ok-trying.ensures running c.told_command-2.ensures.shape in
    let watching : app_of c.in_ok-watching.watching ≡ watches =
    with_more _ tries _ mon_shape _ c.in_ok-watching.ensures trying c.mon_command.ensures.shape in
    if_with c.with-5.result _ watches _ make_shape c.with-5.ensures watching c.make_command.ensures.shape
