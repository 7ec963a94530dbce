use Rattle.std.proofs.Common.{List, ℕ, map, string_bytes, subst, sym}
use Rattle.std.specs.List.{Contains}
use Rattle.sc_io.specs.FileList.{files_of}
use Rattle.sc_cases.proofs.DistinctPaths.{File, distinct_added}
use Rattle.sc_cases.proofs.DistinctPaths.{path_of}
use Rattle.sc_cases.proofs.files.add_file.Goals as goal

pub returns : goal.returns
returns c =
    let old = c.args.files.now.items in
    distinct_added old c.push.new.self.items (c.args.path, c.args.bytes) c.in_ok-push.ensures.items c.requires (λ h.
    c.has_path.ensures c.if-has_path.false (subst (λ (l : List File). Contains (map path_of (files_of l)) c.as_str.result.now) (sym c.as_slice.ensures.value) (subst (λ (p : List ℕ). Contains (map path_of (files_of old)) p) (sym c.as_str.ensures.value) h)))
