-- What a `Sheet` shows, by the struct.
use Rattle.std.specs.Prelude.{Some, None, Option}
use Rattle.plan.specs.declared.listed.Plan.{Plan}
use Rattle.sheet.specs.declared.sheet.Sheet.{Sheet}
use Rattle.sheet.specs.Readings as readings
use Rattle.sheet.specs.Readings.{Reading}

-- the plan that stands behind the references
abbrev pub plan_shown : Option Plan → Option readings.Plan
plan_shown None = None
plan_shown (Some p) = Some (record { pairs = p.pairs; one = p.one.now; two = p.two.now; cut = p.cut.now; first = p.first.now })

-- what a sheet shows
abbrev pub shown : Sheet → Reading
shown s = record { links = s.links.now; plan = plan_shown s.plan }
