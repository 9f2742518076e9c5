use Rattle.std.proofs.Common.{ap, ap₂, codes, true, ◌≡◌, ◌∙◌}
use Rattle.clap.specs.Simple.{App, Shape, app_of, app_of_fields, new_app, on_top, with_subcommand}
use Rattle.command_line.specs.Clap.{bare_app, plan_app, statement_app, workload_app}
use Rattle.command_line.proofs.taco_command.Goals as goal

abbrev top_of : App → Shape
top_of a = a.top

pub returns : goal.returns
returns c =
    let flag : App → App = on_top (λ s. record s { disable_help_flag = true }) in
    let help : App → App = on_top (λ s. record s { disable_help_subcommand = true }) in
    let needs : App → App = on_top (λ s. record s { subcommand_required = true }) in
    let flag_is : app_of c.disable_help_flag.result ≡ flag (new_app (codes "taco")) =
    ap app_of_fields c.disable_help_flag.ensures ∙ ap flag c.new.ensures.app in
    let help_is : app_of c.disable_help_subcommand.result ≡ help (flag (new_app (codes "taco"))) =
    ap app_of_fields c.disable_help_subcommand.ensures ∙ ap help flag_is in
    let bare_is : app_of c.subcommand_required.result ≡ bare_app =
    ap app_of_fields c.subcommand_required.ensures ∙ ap needs help_is in
    let run : App = with_subcommand bare_app (statement_app c.args.parser (codes "run")).top in
    let kernel : App = with_subcommand run (statement_app c.args.parser (codes "kernel")).top in
    let report : App = with_subcommand kernel (statement_app c.args.parser (codes "report")).top in
    let auto : App = with_subcommand report (statement_app c.args.parser (codes "auto")).top in
    let plan : App = with_subcommand auto plan_app.top in
    let workload : App = with_subcommand plan workload_app.top in
    let run_is : app_of c.in_ok-subcommand.field-0 ≡ run =
    c.in_ok-subcommand.ensures.shape c.in_ok-run.ensures.local
    ∙ ap₂ with_subcommand bare_is (ap top_of c.in_ok-run.ensures.app) in
    let kernel_is : app_of c.in_ok-subcommand-2.field-0 ≡ kernel =
    c.in_ok-subcommand-2.ensures.shape c.in_ok-kernel.ensures.local
    ∙ ap₂ with_subcommand run_is (ap top_of c.in_ok-kernel.ensures.app) in
    let report_is : app_of c.in_ok-subcommand-3.field-0 ≡ report =
    c.in_ok-subcommand-3.ensures.shape c.in_ok-report.ensures.local
    ∙ ap₂ with_subcommand kernel_is (ap top_of c.in_ok-report.ensures.app) in
    let auto_is : app_of c.in_ok-subcommand-4.field-0 ≡ auto =
    c.in_ok-subcommand-4.ensures.shape c.in_ok-auto.ensures.local
    ∙ ap₂ with_subcommand report_is (ap top_of c.in_ok-auto.ensures.app) in
    let plan_is : app_of c.in_ok-subcommand-5.field-0 ≡ plan =
    c.in_ok-subcommand-5.ensures.shape c.in_ok-plan.ensures.local
    ∙ ap₂ with_subcommand auto_is (ap top_of c.in_ok-plan.ensures.app) in
    let workload_is : app_of c.in_ok-subcommand-6.field-0 ≡ workload =
    c.in_ok-subcommand-6.ensures.shape c.in_ok-workload.ensures.local
    ∙ ap₂ with_subcommand plan_is (ap top_of c.in_ok-workload.ensures.app) in
    record {
      app = c.in_ok-command.ensures.shape c.in_ok-exec.ensures.local
          ∙ ap₂ with_subcommand workload_is (ap top_of c.in_ok-exec.ensures.app);
    }
