-- `Why::number` meets its contract: case by case.
use Rattle.refusal.proofs.Why.number.Goals as goal

pub returns-in-KnownSetting : goal.returns-in-KnownSetting
returns-in-KnownSetting c = rw c.in-KnownSetting.is

pub returns-in-SurelyFalse : goal.returns-in-SurelyFalse
returns-in-SurelyFalse c = rw c.in-SurelyFalse.is

pub returns-in-NotKnown : goal.returns-in-NotKnown
returns-in-NotKnown c = rw c.in-NotKnown.is

pub returns-in-HeldSetting : goal.returns-in-HeldSetting
returns-in-HeldSetting c = rw c.in-HeldSetting.is
