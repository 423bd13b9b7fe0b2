-- The smallest site model: one state, 0, with no label and no reward, where waiting leads back with all eight eighths.
use Rattle.std.specs.Prelude.{◌&&◌, [], ◌∷◌, pos, if◌then◌else◌, ◌==◌}
use Rattle.model.specs.Models.{Model}

abbrev pub idle : Model
idle = record {
  start = 0;
  state = λ s. (s == 0);
  mask = λ s. 0;
  reward = λ s. pos 0;
  site = λ s. 0;
  offered = λ s a. (s == 0) && (a == 0);
  outcomes = λ s a. if s == 0 && a == 0 then record { target = 0; weight = 8 } ∷ [] else [];
  labels = 0;
  actions = 1;
  bound = 0;
  span = 1;
}
