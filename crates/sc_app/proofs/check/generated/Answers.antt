use Rattle.sc_app.proofs.Generated.{few_files, none_passed, project_sources, project_within}
use Rattle.sc_app.proofs.check.generated.Goals as goal

pub returns-in-Ok : goal.returns-in-Ok
returns-in-Ok c =
    let n = c.args.classes in
    let files = c.in-Ok.files.items in
    let made = c.in-Ok.ensures.project in
    let count = c.in-Ok.ensures.count in
    let short = c.in-Ok.ensures.short in (
      (project_sources n files c.requires made count short c.projects_are_folders.ensures, few_files n files c.requires made count short, none_passed n files c.requires made count short),
      project_within n files c.requires made count short,
    )
