-- What a look-up finds, as data.
use Rattle.nn_model.specs.declared.form.Form.{Form}
use Rattle.nn_model.specs.declared.form.Form.TheVariants as form
use Rattle.nn_tree.specs.declared.found.Found.{Found}
use Rattle.nn_tree.specs.declared.found.Found.TheVariants.{Dir, File}

-- a directory, or the file that was lent
abbrev pub form_of : Found → Form
form_of Dir = form.Dir
form_of (File x) = form.File x.now
