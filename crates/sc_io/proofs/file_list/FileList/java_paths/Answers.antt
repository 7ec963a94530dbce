use Rattle.sc_io.proofs.file_list.FileList.java_paths.Goals as goal

pub returns : goal.returns
returns c = rw c.as_slice.ensures.value at c.java_paths_of.ensures
