pub mod Program
pub mod Run
pub mod Status
pub mod UnderWay
