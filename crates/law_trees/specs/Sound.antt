-- A text of good form: no 4, and no 15.
use Rattle.std.specs.Prelude.{◌≡◌, false}
use Rattle.macro_form.specs.declared.Form.{Form}

pub record Sound (f : Form) : Type 0 where
  pub form : f.formless ≡ false
  pub depth : f.deep ≡ false
