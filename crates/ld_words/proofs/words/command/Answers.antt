use Rattle.std.proofs.Common.{◌≡◌, codes, rules, true}
use Rattle.clap.specs.Words.{App, app_of, new_app}
use Rattle.ld_words.specs.CommandLine.{check_shape, explain_shape, graph_shape, condense_shape, schedule_shape, chains_shape}
use Rattle.ld_words.proofs.words.command.Goals as goal

-- the program without subcommands
abbrev top : App
top = let app = new_app (codes "lockdep") in record app { top = record app.top { subcommand_required = true; has_version = true } }

pub returns : goal.returns
returns c =
    let none : app_of c.subcommand_required-app.result ≡ top = search rules in
    let one = c.in_ok-app.ensures top check_shape none c.check_command.ensures.shape c.check_command.ensures.local in
    let two = c.in_ok-app-2.ensures _ explain_shape one c.explain_command.ensures.shape c.explain_command.ensures.local in
    let three = c.in_ok-app-3.ensures _ graph_shape two c.graph_command.ensures.shape c.graph_command.ensures.local in
    let four = c.in_ok-app-4.ensures _ condense_shape three c.condense_command.ensures.shape c.condense_command.ensures.local in
    let five = c.in_ok-app-5.ensures _ schedule_shape four c.schedule_command.ensures.shape c.schedule_command.ensures.local in
    c.with_subcommand-6.ensures _ chains_shape five c.chains_command.ensures.shape c.chains_command.ensures.local
